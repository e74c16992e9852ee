use Rattle.std.proofs.Common.{is_some, option_map, sym, ap, ◌∙◌, arith}
use Rattle.regex_meta.specs.Programs.{pattern_of, leftmost}
use Rattle.regex_vm.specs.Found.{span}
use Rattle.expr_pattern.proofs.Found.{none_left, found_here, next_place}
use Rattle.expr_pattern.proofs.matcher.finds_between_characters.Goals as goal

pub returns-in_default-clause-found : goal.returns-in_default-clause-found
returns-in_default-clause-found c =
    let re = pattern_of c.args.searcher.now.program.now in
    let hay = c.args.hay.now in
    let at = c.places.at in
    let inv = c.places.invariant in
    let found = c.in_default.ensures.found ∙ ap (λ p. option_map span (leftmost p hay at)) inv.1 in
    sym (ap is_some inv.2 ∙ none_left re hay at found)

pub returns-then-is_character_boundary-clause-found : goal.returns-then-is_character_boundary-clause-found
returns-then-is_character_boundary-clause-found c =
    let re = pattern_of c.args.searcher.now.program.now in
    let hay = c.args.hay.now in
    let at = c.places.at in
    let inv = c.places.invariant in
    let found = c.in-Some.ensures.found ∙ ap (λ p. option_map span (leftmost p hay at)) inv.1 in
    sym (ap is_some inv.2 ∙ found_here re hay at c.in-Some.from c.in-Some.field-0-1 found
    (sym c.is_character_boundary.ensures ∙ c.if-is_character_boundary.true))

pub overflow_add-at : goal.overflow_add-at
overflow_add-at c =
    let re = pattern_of c.args.searcher.now.program.now in
    let hay = c.args.hay.now in
    let at = c.places.at in
    let found = c.in-Some.ensures.found ∙ ap (λ p. option_map span (leftmost p hay at)) c.places.invariant.1 in
    let next = next_place re hay at c.in-Some.from c.in-Some.field-0-1 found
    (sym c.is_character_boundary.ensures ∙ c.if-is_character_boundary.false) in
    omega arith

pub places-smaller : goal.places-smaller
places-smaller c =
    let re = pattern_of c.args.searcher.now.program.now in
    let hay = c.args.hay.now in
    let at = c.places.at in
    let found = c.in-Some.ensures.found ∙ ap (λ p. option_map span (leftmost p hay at)) c.places.invariant.1 in
    let next = next_place re hay at c.in-Some.from c.in-Some.field-0-1 found
    (sym c.is_character_boundary.ensures ∙ c.if-is_character_boundary.false) in
    omega arith

pub places-preserved : goal.places-preserved
places-preserved c =
    let re = pattern_of c.args.searcher.now.program.now in
    let hay = c.args.hay.now in
    let at = c.places.at in
    let inv = c.places.invariant in
    let found = c.in-Some.ensures.found ∙ ap (λ p. option_map span (leftmost p hay at)) inv.1 in
    let next = next_place re hay at c.in-Some.from c.in-Some.field-0-1 found
    (sym c.is_character_boundary.ensures ∙ c.if-is_character_boundary.false) in
    (omega arith, c.in-Some.ensures.same ∙ inv.1, inv.2 ∙ next.2)
