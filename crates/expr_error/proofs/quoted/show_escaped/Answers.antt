use Rattle.std.proofs.Common.{◌≡◌, ◌++◌, ◌+◌, ◌<◌, length, take, flat_map, get_or, refl, sym, ap, subst, ◌∙◌, arith, rules}
use Rattle.std.proofs.Output.{has_written_append, has_written_of_eq}
use Rattle.std.proofs.lemmas.Str.{IsCharBoundary-after_ascii, IsCharBoundary-start}
use Rattle.std.specs.Str.{IsCharBoundary}
use Rattle.std.specs.Fmt.{HasWritten}
use Rattle.expr_error.specs.Quoted.{escaped_byte}
use Rattle.expr_error.proofs.Escapes.{IsRun, byte_at, run_begins, run_ends, run_on}
use Rattle.expr_error.proofs.quoted.show_escaped.Goals.{in-Some+in_ok-write_str-in-Some+in_ok-write_str-in-Some-2, in-None}
use Rattle.expr_error.proofs.quoted.show_escaped.Goals as goal

pub loop-i-init : goal.loop-i-init
loop-i-init g c = (omega arith, IsCharBoundary-start c.args.text.now c.utf8.text, refl, search rules)

pub loop-i-preserved : goal.loop-i-preserved
loop-i-preserved g c =
    let text = c.args.text.now in
    let i = c.loop-i.i in
    let same : c.as_bytes-bytes.result.now ≡ text = c.as_bytes-bytes.ensures.value in
    let b = get_or c.as_bytes-bytes.result.now i 0 in
    let at : b ≡ get_or text i b = byte_at c.as_bytes-bytes.result.now i c.loop-i-test.true ∙ ap (λ l. get_or l i b) same in
    let within : i < length text = omega (arith, c.loop-i-test.true, ap length same) in
    let inv = c.loop-i.invariant in
    elim c.match-escape_of.branch [
      | in-Some+in_ok-write_str-in-Some+in_ok-write_str-in-Some-2 w ↦
          let next = w.start-is in
          let ascii : get_or text i 0 < 128 = subst (λ l. get_or l i 0 < 128) same w.in-Some.ensures.ascii in (
            omega (arith, next),
            subst (IsCharBoundary text) (sym next) (IsCharBoundary-after_ascii text i c.utf8.text within ascii),
            subst (λ n. IsRun text n (i + 1)) (sym next) (run_begins text (i + 1)),
            λ plain.
                let run = w.write_str.ensures.writes (inv.3 plain).plain (search rules) in
                let escape = w.write_str-in-Some.ensures.writes run.plain (search rules) in
                let written = has_written_append _ _ _ _ _ _ (has_written_append _ _ _ _ _ _ (inv.3 plain) run) escape in
                let whole : (flat_map escaped_byte (take c.loop-i.start text) ++ w.range.result.now) ++ w.in-Some.escape.now ≡ flat_map escaped_byte (take c.match-escape_of.start text) =
                ap (λ l. (flat_map escaped_byte (take c.loop-i.start text) ++ l) ++ w.in-Some.escape.now) w.range.ensures.value
                ∙ run_ends text c.loop-i.start i b w.in-Some.escape.now within at w.in-Some.ensures.cases inv.2 ∙ ap (λ n. flat_map escaped_byte (take n text)) (sym next) in
                subst (λ f. HasWritten g.W.Write.write_str_gives c.args.f.now (flat_map escaped_byte (take c.match-escape_of.start text)) f) (sym w.f-is) (has_written_of_eq _ _ _ _ _ whole written),
          )
      | in-None w ↦ (
        omega (arith, w.start-is, inv.0),
        subst (IsCharBoundary text) (sym w.start-is) inv.1,
        subst (λ n. IsRun text n (i + 1)) (sym w.start-is) (run_on text c.loop-i.start i b within inv.0 at w.in-None.ensures.cases inv.2),
        λ plain.
            subst (λ f. HasWritten g.W.Write.write_str_gives c.args.f.now (flat_map escaped_byte (take c.match-escape_of.start text)) f) (sym w.f-is)
            (has_written_of_eq _ _ _ _ _ (ap (λ n. flat_map escaped_byte (take n text)) (sym w.start-is)) (inv.3 plain)),
      )
    ]
