use Rattle.std.proofs.Common.{◌<◌, Some, false, ap, ◌∙◌, subst}
use Rattle.regex_meta.proofs.LeftmostLemmas.{are_bytes}
use Rattle.expr_pattern.specs.declared.compiled.Compiled.{Compiled}
use Rattle.expr_pattern.proofs.Found.{ended, not_found, found_filled}
use Rattle.expr_pattern.proofs.search.Search.answer.Goals as goal

pub returns-in-NoMatch : goal.returns-in-NoMatch
returns-in-NoMatch c =
    let it = c.args.self.now.compiled.value in
    let text = c.args.text.now in
    let end = ended false c.as_ref.result.now it c.as_bytes-hay.result.now text _ _ c.as_ref.ensures c.as_bytes-hay.ensures.value
    c.in-NoMatch.is c.find_end.ensures.end in
    it.searches text (λ k. (c.type_inv.text k).fits) ∙ ap Some (not_found it.program text (are_bytes text c.type_inv.text) end)

pub returns-in-At : goal.returns-in-At
returns-in-At c =
    let it = c.args.self.now.compiled.value in
    let text = c.args.text.now in
    let end = ended false c.as_ref.result.now it c.as_bytes-hay.result.now text _ _ c.as_ref.ensures c.as_bytes-hay.ensures.value
    c.in-At.is c.find_end.ensures.end in
    let positive = subst (λ (x : Compiled). 0 < x.program.min_len) c.as_ref.ensures c.if-program-gt0.true in
    it.searches text (λ k. (c.type_inv.text k).fits)
    ∙ ap Some (found_filled it.program text (are_bytes text c.type_inv.text) it.whole_characters positive end.0)
