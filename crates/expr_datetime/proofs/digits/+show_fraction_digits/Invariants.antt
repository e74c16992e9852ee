use Rattle.expr_datetime.proofs.digits.+show_fraction_digits.Given as goal

abbrev pub decreases-show_fraction_digits : goal.decreases-show_fraction_digits
decreases-show_fraction_digits g l = l.places
