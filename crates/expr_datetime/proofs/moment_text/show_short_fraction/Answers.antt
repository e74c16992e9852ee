use Rattle.std.proofs.Common.{◌∙◌, ap, rules, w32}
use Rattle.std.proofs.Output.{has_written_append, has_written_of_eq}
use Rattle.expr_datetime.specs.Moments.{short_fraction}
use Rattle.expr_datetime.proofs.Casts.{cast_stays}
use Rattle.expr_datetime.proofs.Fractions.{in_fewest}
use Rattle.expr_datetime.proofs.moment_text.show_short_fraction.Goals as goal

pub returns : goal.returns
returns g c plain ok =
    let same = cast_stays w32 c.subsec_nanosecond-parts.result c.args.time.subsec_nanosecond (search rules) c.subsec_nanosecond-parts.ensures in
    let point = c.write_str-2.ensures.writes plain (search rules) in
    let digits = c.show_fraction_digits.ensures point.plain ok in
    has_written_of_eq _ _ _ _ _ (in_fewest _ c.if-parts-eq0.false ∙ ap short_fraction same) (has_written_append _ _ _ _ _ _ point digits)
