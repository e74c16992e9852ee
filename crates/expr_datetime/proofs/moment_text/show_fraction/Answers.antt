use Rattle.std.proofs.Common.{◌∙◌, ap, sym, rules, w32}
use Rattle.std.proofs.Output.{has_written_append, has_written_of_eq}
use Rattle.std.proofs.lemmas.Bool.{false≢true}
use Rattle.expr_datetime.specs.Moments.{fraction_text}
use Rattle.expr_datetime.proofs.Casts.{cast_stays}
use Rattle.expr_datetime.proofs.Fractions.{in_millis, in_micros, in_nanos}
use Rattle.expr_datetime.proofs.moment_text.show_fraction.Goals as goal

pub returns-in_ok-write_str : goal.returns-in_ok-write_str
returns-in_ok-write_str g c plain ok =
    let same = cast_stays w32 c.subsec_nanosecond-parts.result c.args.time.subsec_nanosecond (search rules) c.subsec_nanosecond-parts.ensures in
    let point = c.write_str-then-is_multiple_of.ensures.writes plain (search rules) in
    has_written_of_eq _ _ _ _ _ (in_millis _ c.if-parts-eq0.false (c.is_multiple_of.ensures.0 c.if-is_multiple_of.true) ∙ ap fraction_text same)
    (has_written_append _ _ _ _ _ _ point (c.show_digits.ensures point.plain ok))

pub returns-in_ok-write_str-2 : goal.returns-in_ok-write_str-2
returns-in_ok-write_str-2 g c plain ok =
    let same = cast_stays w32 c.subsec_nanosecond-parts.result c.args.time.subsec_nanosecond (search rules) c.subsec_nanosecond-parts.ensures in
    let point = c.write_str-then-is_multiple_of-2.ensures.writes plain (search rules) in
    has_written_of_eq _ _ _ _ _
    (in_micros _ c.if-parts-eq0.false (λ e. false≢true (sym c.if-is_multiple_of.false ∙ c.is_multiple_of.ensures.1 e)) (c.is_multiple_of-else-is_multiple_of.ensures.0 c.if-is_multiple_of-2.true) ∙ ap fraction_text same)
    (has_written_append _ _ _ _ _ _ point (c.show_digits-then-is_multiple_of-2.ensures point.plain ok))

pub returns-in_ok-write_str-3 : goal.returns-in_ok-write_str-3
returns-in_ok-write_str-3 g c plain ok =
    let same = cast_stays w32 c.subsec_nanosecond-parts.result c.args.time.subsec_nanosecond (search rules) c.subsec_nanosecond-parts.ensures in
    let point = c.write_str-else-is_multiple_of-2.ensures.writes plain (search rules) in
    has_written_of_eq _ _ _ _ _
    (in_nanos _ c.if-parts-eq0.false (λ e. false≢true (sym c.if-is_multiple_of.false ∙ c.is_multiple_of.ensures.1 e)) (λ e. false≢true (sym c.if-is_multiple_of-2.false ∙ c.is_multiple_of-else-is_multiple_of.ensures.1 e)) ∙ ap fraction_text same)
    (has_written_append _ _ _ _ _ _ point (c.show_digits-else-is_multiple_of-2.ensures point.plain ok))
