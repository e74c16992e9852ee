use Rattle.expr_datetime.proofs.digits.+show_digits.Given as goal

abbrev pub decreases-show_digits : goal.decreases-show_digits
decreases-show_digits g l = l.count
