use Rattle.std.proofs.Common.{◌≡◌, IfOk, suc, ◌<◌, Some, None, length, map, sym, ap, ◌∙◌, subst, arith, rules, Global, String, string_bytes}
use Rattle.std.proofs.lemmas.List.{get_or-map, length-map}
use Rattle.std.proofs.lemmas.List.Elements.{All-get_or, All-nil, All-same}
use Rattle.expr_tree.specs.KeptPatterns.{line_operations, operations, predicate_operations}
use Rattle.expr_tree.specs.Term.{call, list, no_terms, predicate, block_with}
use Rattle.expr_tree.specs.TermOf.{predicate_term, program_term, term_of, line_term, terms_of}
use Rattle.expr_tree.specs.declared.node.Node.{Node}
use Rattle.expr_tree.proofs.KeptPatterns.{all-Func, all-program}
use Rattle.expr_tree.proofs.Programs.{term_of-program}
use Rattle.expr_tree.proofs.Shapes.{term_of-Func}
use Rattle.expr_parts.specs.Kept.{IsKeptBeside, KeepPatterns}
use Rattle.expr_parts.specs.Parts.{ArgumentsWithHeight}
use Rattle.expr_parts.specs.Promotion.{any_free_hash, call_of, has_free_hash}
use Rattle.expr_parts.proofs.Kept.{all_remove, keeps-none, keeps_node, keeps_program}
use Rattle.expr_parts.proofs.Parts.{map-remove, same_measured}
use Rattle.expr_parts.proofs.HashUses.{any_marked, call_found, found_free, free_within, rest_marked}
use Rattle.expr_parts.proofs.arguments.Arguments.call.Goals as goal

-- that the patterns of a node are kept, and of a line's value
abbrev keeps : Node → Type 0
keeps n = KeepPatterns (operations n)

abbrev line_keeps : String Global × Node → Type 0
line_keeps l = KeepPatterns (line_operations l)

pub call_with-requires : goal.call_with-requires
call_with-requires c = record {
  hash = any_marked c.self.inside.marks (map term_of c.self.inside.nodes.items) c.self.invariant.0;
  arguments = c.self.invariant.1;
  program = subst (λ o. KeepPatterns (predicate_operations o)) c.in-Some.is c.self.invariant.2;
}

pub made-requires-clause-hash : goal.made-requires-clause-hash
made-requires-clause-hash c =
    any_marked c.self.inside.marks (map term_of c.self.inside.nodes.items) c.self.invariant.0
    ∙ sym (ap has_free_hash (term_of-Func c.args.ident c.self.inside.nodes None))

pub made-requires-clause-patterns : goal.made-requires-clause-patterns
made-requires-clause-patterns c = all-Func IsKeptBeside c.args.ident c.self.inside.nodes None c.self.invariant.1 keeps-none

pub remove-expr-requires : goal.remove-expr-requires
remove-expr-requires c =
    let ns = c.self.inside.nodes in
    let ts = map term_of ns.items in
    let count = c.len.ensures ∙ ns.ok.0 ∙ sym (length-map ns.items term_of) in
    let free = found_free c.as_str.result.now ts c.self.inside.marks c.len.result c.promoted_place.result c.in-Some-promoted_place.place c.self.invariant.0 count c.promoted_place.ensures c.in-Some-promoted_place.is in
    omega (arith, free_within ts c.in-Some-promoted_place.place free, length-map ns.items term_of, ns.ok.0)

pub call_with-requires-in-Some-promoted_place : goal.call_with-requires-in-Some-promoted_place
call_with-requires-in-Some-promoted_place c =
    let ns = c.self.inside.nodes in
    let ts = map term_of ns.items in
    let place = c.in-Some-promoted_place.place in
    let count = c.len.ensures ∙ ns.ok.0 ∙ sym (length-map ns.items term_of) in
    let free = found_free c.as_str.result.now ts c.self.inside.marks c.len.result c.promoted_place.result place c.self.invariant.0 count c.promoted_place.ensures c.in-Some-promoted_place.is in
    let below : place < length ns.items = omega (arith, free_within ts place free, length-map ns.items term_of) in
    record {
      hash = rest_marked c.self.inside.marks ts place c.self.invariant.0 free
          ∙ ap (λ l. any_free_hash (terms_of l)) (sym (ap (map term_of) c.remove-expr.ensures.items ∙ map-remove term_of ns.items place));
      arguments = All-same keeps _ _ c.remove-expr.ensures.items (all_remove keeps ns.items place c.self.invariant.1);
      program = keeps_program c.in_ok-program-in-Some-promoted_place.ensures.ok
          (all-program IsKeptBeside c.new-lines.result c.remove-expr.result (All-same line_keeps _ _ c.new-lines.ensures.items (All-nil line_keeps))
          (keeps_node c.remove-expr.ensures.value (All-get_or keeps ns.items place c.remove-expr.result below c.self.invariant.1)));
    }

pub returns-in-None : goal.returns-in-None
returns-in-None c =
    let ns = c.self.inside.nodes in
    let ts = map term_of ns.items in
    let key = string_bytes c.args.ident in
    let count = c.len.ensures ∙ ns.ok.0 ∙ sym (length-map ns.items term_of) in
    let none : c.self.inside.program ≡ None = search rules in
    subst (λ m. IfOk c.made.result (λ p. p ≡ m)) (
    same_measured
    (term_of-Func c.args.ident ns None
    ∙ call_found key ts c.self.inside.marks c.len.result c.promoted_place.result None c.self.invariant.0 count (rw c.as_str.ensures.value at c.promoted_place.ensures) c.in-None.is
    ∙ ap (λ o. call_of key ts (predicate_term o)) (sym none)
    ∙ ap (λ (g : ArgumentsWithHeight). call_of key g.terms g.program) c.self.view_is)
    (c.in_ok-height.ensures ∙ ap (λ (g : ArgumentsWithHeight). suc g.height) c.self.view_is)
    ) c.made.ensures

pub returns-in_ok-program-in-Some-promoted_place : goal.returns-in_ok-program-in-Some-promoted_place
returns-in_ok-program-in-Some-promoted_place c =
    let ns = c.self.inside.nodes in
    let ts = map term_of ns.items in
    let key = string_bytes c.args.ident in
    let place = c.in-Some-promoted_place.place in
    let expr = c.remove-expr.result in
    let count = c.len.ensures ∙ ns.ok.0 ∙ sym (length-map ns.items term_of) in
    let found = rw c.as_str.ensures.value at c.promoted_place.ensures in
    let free = found_free key ts c.self.inside.marks c.len.result c.promoted_place.result place c.self.invariant.0 count found c.in-Some-promoted_place.is in
    let below : place < length ns.items = omega (arith, free_within ts place free, length-map ns.items term_of) in
    let none : c.self.inside.program ≡ None = search rules in
    let rest = ap (map term_of) c.remove-expr.ensures.items ∙ map-remove term_of ns.items place in
    let taken = ap term_of c.remove-expr.ensures.value ∙ sym (get_or-map term_of ns.items place expr (list no_terms) below) in
    let program = term_of-program c.new-lines.result expr ∙ (λ i. block_with (map line_term (c.new-lines.ensures.items i)) (taken i)) in
    let step = ap program_term c.in_ok-program-in-Some-promoted_place.ensures.ok ∙ program in
    subst (λ m. IfOk c.call_with-in-Some-promoted_place.result (λ p. p ≡ m)) (
    same_measured
    ((λ i. call key (terms_of (rest i)) (predicate (step i)))
    ∙ call_found key ts c.self.inside.marks c.len.result c.promoted_place.result (Some place) c.self.invariant.0 count found c.in-Some-promoted_place.is
    ∙ ap (λ o. call_of key ts (predicate_term o)) (sym none)
    ∙ ap (λ (g : ArgumentsWithHeight). call_of key g.terms g.program) c.self.view_is)
    (c.in_ok-height.ensures ∙ ap (λ (g : ArgumentsWithHeight). suc g.height) c.self.view_is)
    ) c.call_with-in-Some-promoted_place.ensures
