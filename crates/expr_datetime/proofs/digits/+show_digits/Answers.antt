use Rattle.std.proofs.Common.{◌-◌, ◌/◌, ◌%◌, ◌++◌, ◌∙◌, ap, rules}
use Rattle.std.specs.Fmt.{decimal}
use Rattle.std.proofs.Output.{has_written_append, has_written_of_eq}
use Rattle.expr_datetime.specs.Digits.{digits}
use Rattle.expr_datetime.proofs.Places.{next_digit}
use Rattle.expr_datetime.proofs.digits.+show_digits.Goals as goal

pub returns : goal.returns
returns g t c = λ plain ok.
    let n = c.args.count in
    let number = c.args.number in
    let digit = c.write.ensures.writes plain (search rules) in
    has_written_of_eq _ _ _ _ _
    (ap (λ u. decimal (number / u) ++ digits (n - 1) (number % u)) c.power_of_ten-unit.ensures.value ∙ next_digit n number c.if-count-eq0.false)
    (has_written_append _ _ _ _ _ _ digit (c.show_digits.ensures digit.plain ok))
