use Rattle.std.proofs.Common.{◌/◌, ◌%◌, ◌==◌, [], ◌++◌, ◌∙◌, ap, cond, codes, rules}
use Rattle.std.specs.Fmt.{decimal}
use Rattle.std.proofs.Output.{has_written_append, has_written_of_eq}
use Rattle.expr_datetime.specs.Digits.{fraction_digits}
use Rattle.expr_datetime.proofs.Zeros.{unless_zero}
use Rattle.expr_datetime.proofs.duration.show_units.Goals as goal

pub returns : goal.returns
returns g c plain ok =
    let n = c.args.places in
    let parts = c.args.parts in
    let unit = c.power_of_ten-unit in
    let whole = c.write.ensures.writes plain (search rules) in
    let point = c.write_str-2.ensures.writes whole.plain (search rules) in
    let rest = c.show_fraction_digits.ensures point.plain ok in
    has_written_of_eq _ _ _ _ _
    (ap (λ l. decimal (parts / unit.result) ++ l) (unless_zero (parts % unit.result) [] _ c.if-rest-eq0.false)
    ∙ ap (λ u. decimal (parts / u) ++ cond (parts % u == 0) [] (codes "." ++ fraction_digits n (parts % u))) unit.ensures.value)
    (has_written_append _ _ _ _ _ _ whole (has_written_append _ _ _ _ _ _ point rest))
