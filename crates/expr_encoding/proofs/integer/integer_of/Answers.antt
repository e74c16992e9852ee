use Rattle.std.proofs.Common.{◌≡◌, drop, get_or, true, false, ◌==◌, sym, ap, ◌∙◌, arith, take_all, length-drop}
use Rattle.std.specs.Prelude.{option_and_then}
use Rattle.std.proofs.lemmas.Option.{IfSome_then}
use Rattle.fast_float.specs.Text.{scan}
use Rattle.serde_json.specs.Find.{as_i64}
use Rattle.serde_json.specs.Read.{number_of, number_from}
use Rattle.expr_encoding.proofs.Options.{if_it_is}
use Rattle.expr_encoding.proofs.integer.integer_of.Goals as goal

pub returns-then-has_minus : goal.returns-then-has_minus
unfolding number_of
returns-then-has_minus c =
    let s = c.as_bytes-bytes.result.now in
    let signed : (get_or s 0 0 == 45) ≡ true = sym c.if-has_minus.ensures.value in
    let parts : c.scan.result ≡ scan (drop 1 s) = c.scan.ensures.parts ∙ ap scan (take_all _ (drop 1 s) (omega (arith, length-drop 1 s))) in
    let read : number_of s ≡ number_from true (scan (drop 1 s)) = rw signed in
    IfSome_then c.below_zero.result c.below_zero.ensures (λ n is. ap (option_and_then as_i64) (ap number_of (sym c.as_bytes-bytes.ensures.value) ∙ read ∙ ap (number_from true) (sym parts) ∙ is))

pub returns-in_ok-from_zero : goal.returns-in_ok-from_zero
unfolding number_of
returns-in_ok-from_zero c =
    let s = c.as_bytes-bytes.result.now in
    let unsigned : (get_or s 0 0 == 45) ≡ false = sym c.if-has_minus.ensures.value in
    let read : number_of s ≡ number_from false (scan s) = rw unsigned in
    let is = ap number_of (sym c.as_bytes-bytes.ensures.value) ∙ read ∙ ap (number_from false) (sym c.scan-else-has_minus.ensures.parts) ∙ c.in_ok-from_zero.ensures in
    if_it_is c.signed_of.result _ (ap (option_and_then as_i64) is ∙ sym c.signed_of.ensures)
