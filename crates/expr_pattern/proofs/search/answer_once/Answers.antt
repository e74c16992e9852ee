use Rattle.std.proofs.Common.{Some, length, option_map, sym, ap, ◌∙◌}
use Rattle.regex_hir.specs.Text.{is_boundary}
use Rattle.regex_vm.specs.Found.{first_match, span}
use Rattle.regex_meta.specs.Programs.{pattern_of}
use Rattle.regex_meta.proofs.ProgramLemmas.{first_match-leftmost}
use Rattle.expr_pattern.proofs.Found.{none_left, found_here}
use Rattle.expr_pattern.proofs.search.answer_once.Goals as goal

pub returns-in-None : goal.returns-in-None
returns-in-None c =
    let it = c.args.compiled.now in
    let text = c.args.text.now in
    let found = sym c.in-None.is ∙ c.in-Ok.ensures.span
    ∙ ap (λ l. option_map span (first_match it.program.dfa.nfa l (length l) 0 (length l))) c.as_bytes-hay.ensures.value
    ∙ ap (option_map span) (first_match-leftmost it.program text 0) in
    it.searches text (λ k. (c.type_inv.text k).fits) ∙ ap Some (none_left (pattern_of it.program) text 0 found)

pub returns-in-Some : goal.returns-in-Some
returns-in-Some c =
    let it = c.args.compiled.now in
    let text = c.args.text.now in
    let found = sym c.in-Some.is ∙ c.in-Ok.ensures.span
    ∙ ap (λ l. option_map span (first_match it.program.dfa.nfa l (length l) 0 (length l))) c.as_bytes-hay.ensures.value
    ∙ ap (option_map span) (first_match-leftmost it.program text 0) in
    let cut = ap (λ l. is_boundary l c.in-Some.from) (sym c.as_bytes-hay.ensures.value)
    ∙ sym c.is_character_boundary.ensures ∙ c.if-is_character_boundary.true in
    it.searches text (λ k. (c.type_inv.text k).fits)
    ∙ ap Some (found_here (pattern_of it.program) text 0 c.in-Some.from c.in-Some.field-0-1 found cut)
