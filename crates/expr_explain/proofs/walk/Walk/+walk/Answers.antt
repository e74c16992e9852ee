use Rattle.std.proofs.Common.{◌≡◌, ◌≢◌, ℕ, ◌+◌, ◌*◌, ◌<◌, ◌≤◌, ◌++◌, List, [], ◌∷◌, length, map, drop, arith, rules, true, false, inl, inr, sym, ap, ◌∙◌, subst, refl, Ok, Err, None, MatchOption, String, Global, string_bytes}
use Rattle.std.proofs.lemmas.List.{drop_all, drop_more}
use Rattle.expr_context.specs.Context.{ContextView, override}
use Rattle.expr_error.specs.ErrorKind.{error_kind, memory}
use Rattle.expr_explain.specs.Choosing.{EndsWithLeft, GoesRight}
use Rattle.expr_explain.specs.Layers.{names_inside}
use Rattle.expr_explain.specs.Noting.{AddsOne}
use Rattle.expr_explain.specs.Standing.{InBlock, InBranches, InParts, InRight, InTree, Spot}
use Rattle.expr_explain.specs.Telling.{TellsOf}
use Rattle.expr_explain.specs.declared.layer.LineValue.{LineValue}
use Rattle.expr_explain.specs.declared.layer.Layer.{Layer, Layer-F, out-Layer, roll-Layer, out-roll-Layer}
use Rattle.expr_explain.specs.declared.notes.PartFinding.TheVariants as finding
use Rattle.expr_explain.proofs.Inside.{names_inside-pushed}
use Rattle.expr_explain.proofs.Tellings.{line_allows, line_spots, line_within, operation_under, tells_among, tells_branch_one, tells_branch_two, tells_choice, tells_condition, tells_error, tells_failing, tells_left, tells_none, tells_operand, tells_operation, tells_right, tells_same, tells_then, tells_value}
use Rattle.expr_meaning.specs.Allows.{Allows, AllowsBlock, BranchMayReturn, OperationMayReturn}
use Rattle.expr_meaning.specs.Host.{Host}
use Rattle.expr_meaning.specs.World.{World, world_of}
use Rattle.expr_tree.proofs.Shapes.{term_of-Conditional, term_of-Operation, term_of-Unary}
use Rattle.expr_tree.proofs.Weights.{named_weight, program-parts, weight-Conditional, weight-Operation, weight-Unary}
use Rattle.expr_tree.specs.Term.{Block, Term, choice, operation, unary}
use Rattle.expr_tree.specs.TermOf.{block_of, program_term, term_of}
use Rattle.expr_tree.specs.Weight.{block_weight, weight}
use Rattle.expr_tree.specs.declared.node.Node.{Node}
use Rattle.expr_tree.specs.declared.node.Program.{Program}
use Rattle.expr_value.proofs.Answered.{Returns-passed, Returns-under}
use Rattle.expr_value.specs.Answers.{Answer, Returns}
use Rattle.expr_value.specs.declared.value.Value as value
use Rattle.expr_value.specs.declared.value.Value.{Value}
use Rattle.expr_explain.proofs.walk.Walk.+walk.Goals as goal

-- a node, after its parts
pub visit-returns-in_err-step-in-Ok-clause-told : goal.visit-returns-in_err-step-in-Ok-clause-told
visit-returns-in_err-step-in-Ok-clause-told g t c =
    let host : Host = g.H.Functions.host c.args.self.now.host.now in
    let names : ContextView = names_inside c.args.layer.now (g.P.ContextProvider.context c.args.self.now.provider.now) in
    let n = c.args.notes.now.count in
    let a = c.args.notes.now.parts.items in
    let u = term_of c.args.node.now in
    let b = c.look_into.new.notes.parts.items in
    tells_same host (InTree host names n u) a b c.step.new.self.parts.items c.step.ensures.parts (tells_failing host names n u a b b c.look_into.ensures.told)

pub visit-returns-in_ok-step-in-Ok-clause-told : goal.visit-returns-in_ok-step-in-Ok-clause-told
visit-returns-in_ok-step-in-Ok-clause-told g t c =
    let host : Host = g.H.Functions.host c.args.self.now.host.now in
    let names : ContextView = names_inside c.args.layer.now (g.P.ContextProvider.context c.args.self.now.provider.now) in
    let n = c.args.notes.now.count in
    let a = c.args.notes.now.parts.items in
    let u = term_of c.args.node.now in
    let b = c.look_into.new.notes.parts.items in
    let d = c.tell.new.self.parts.items in
    let v = c.in-Ok.value in
    let ended = c.step.new.self.count in
    let counted : ended ≡ n + weight u = omega (arith, c.in-Ok.ensures.count, c.in_ok-step-in-Ok.ensures.count) in
    tells_value host names n u a b d v ended c.look_into.ensures.told counted c.in-Ok.ensures.answer (
    subst (λ xs. AddsOne xs d u ended (finding.Value v)) c.step.ensures.parts c.tell.ensures.told
    )

pub visit-returns-then-not-is_refusal-clause-told : goal.visit-returns-then-not-is_refusal-clause-told
visit-returns-then-not-is_refusal-clause-told g t c =
    let host : Host = g.H.Functions.host c.args.self.now.host.now in
    let names : ContextView = names_inside c.args.layer.now (g.P.ContextProvider.context c.args.self.now.provider.now) in
    let n = c.args.notes.now.count in
    let a = c.args.notes.now.parts.items in
    let u = term_of c.args.node.now in
    let b = c.look_into.new.notes.parts.items in
    tells_failing host names n u a b b c.look_into.ensures.told

pub visit-returns-else-not-is_refusal-clause-told : goal.visit-returns-else-not-is_refusal-clause-told
visit-returns-else-not-is_refusal-clause-told g t c =
    let host : Host = g.H.Functions.host c.args.self.now.host.now in
    let names : ContextView = names_inside c.args.layer.now (g.P.ContextProvider.context c.args.self.now.provider.now) in
    let n = c.args.notes.now.count in
    let a = c.args.notes.now.parts.items in
    let u = term_of c.args.node.now in
    let b = c.look_into.new.notes.parts.items in
    let d = c.tell_failure.new.self.parts.items in
    let k = error_kind c.in-Err.error in
    let refused : k ≢ memory = search (rules, c.is_refusal.ensures) in
    tells_error host names n u a b d k c.look_into.ensures.told (c.in-Err.ensures.answer refused) c.tell_failure.ensures.told

-- the forms of nodes
pub look_into-returns-in_err-operand-in-Unary-clause-told : goal.look_into-returns-in_err-operand-in-Unary-clause-told
look_into-returns-in_err-operand-in-Unary-clause-told g t c =
    let host : Host = g.H.Functions.host c.args.self.now.host.now in
    let names : ContextView = names_inside c.args.layer.now (g.P.ContextProvider.context c.args.self.now.provider.now) in
    let n = c.args.notes.now.count in
    let a = c.args.notes.now.parts.items in
    let u = term_of c.args.node.now in
    let o = c.in-Unary.operator in
    let x = term_of c.deref.result.now in
    let is : u ≡ unary o x = ap term_of c.in-Unary.is ∙ term_of-Unary o c.in-Unary.node ∙ ap (λ m. unary o (term_of m)) (sym c.deref.ensures) in
    tells_operand host names n u a c.visit.new.notes.parts.items o x is c.visit.ensures.told

pub look_into-returns-in_ok-operand-in-Unary-clause-told : goal.look_into-returns-in_ok-operand-in-Unary-clause-told
look_into-returns-in_ok-operand-in-Unary-clause-told g t c =
    let host : Host = g.H.Functions.host c.args.self.now.host.now in
    let names : ContextView = names_inside c.args.layer.now (g.P.ContextProvider.context c.args.self.now.provider.now) in
    let n = c.args.notes.now.count in
    let a = c.args.notes.now.parts.items in
    let u = term_of c.args.node.now in
    let o = c.in-Unary.operator in
    let x = term_of c.deref.result.now in
    let is : u ≡ unary o x = ap term_of c.in-Unary.is ∙ term_of-Unary o c.in-Unary.node ∙ ap (λ m. unary o (term_of m)) (sym c.deref.ensures) in
    tells_operand host names n u a c.visit.new.notes.parts.items o x is c.visit.ensures.told

pub look_into-returns-in_err-first-in-Operation-clause-told : goal.look_into-returns-in_err-first-in-Operation-clause-told
look_into-returns-in_err-first-in-Operation-clause-told g t c =
    let host : Host = g.H.Functions.host c.args.self.now.host.now in
    let names : ContextView = names_inside c.args.layer.now (g.P.ContextProvider.context c.args.self.now.provider.now) in
    let n = c.args.notes.now.count in
    let a = c.args.notes.now.parts.items in
    let u = term_of c.args.node.now in
    let op = c.in-Operation.operator in
    let l = term_of c.deref-in-Operation.result.now in
    let r = term_of c.in-Operation.right.value in
    let is : u ≡ operation op l r =
    ap term_of c.in-Operation.is ∙ term_of-Operation op c.in-Operation.left c.in-Operation.right c.in-Operation.compiled_regex
    ∙ ap (λ m. operation op (term_of m) r) (sym c.deref-in-Operation.ensures) in
    tells_left host names n u a c.visit-in-Operation.new.notes.parts.items op l r is c.visit-in-Operation.ensures.told

pub look_into-returns-in_ok-first-in-Operation-clause-answer : goal.look_into-returns-in_ok-first-in-Operation-clause-answer
look_into-returns-in_ok-first-in-Operation-clause-answer g t c =
    let host : Host = g.H.Functions.host c.args.self.now.host.now in
    let names : ContextView = names_inside c.args.layer.now (g.P.ContextProvider.context c.args.self.now.provider.now) in
    let n = c.args.notes.now.count in
    let a = c.args.notes.now.parts.items in
    let world : World = world_of host names in
    let u = term_of c.args.node.now in
    let op = c.in-Operation.operator in
    let l = term_of c.deref-in-Operation.result.now in
    let r = term_of c.deref-in-Operation-2.result.now in
    let is : u ≡ operation op l r =
    ap term_of c.in-Operation.is ∙ term_of-Operation op c.in-Operation.left c.in-Operation.right c.in-Operation.compiled_regex
    ∙ (λ i. operation op (term_of ((sym c.deref-in-Operation.ensures) i)) (term_of ((sym c.deref-in-Operation-2.ensures) i))) in
    let v = c.in_ok-first-in-Operation.first in
    let said = c.in_ok-first-in-Operation.ensures in
    let whole = operation op l r in
    subst (λ k. Returns c.right_side.result (Allows world k)) (sym is) (
    Returns-under c.right_side.result (OperationMayReturn op v (Allows world r)) (Allows world whole) (λ x p. (Ok v, said.answer, p)) c.right_side.ensures.answer
    )

pub look_into-returns-in_ok-first-in-Operation-clause-told : goal.look_into-returns-in_ok-first-in-Operation-clause-told
look_into-returns-in_ok-first-in-Operation-clause-told g t c =
    let host : Host = g.H.Functions.host c.args.self.now.host.now in
    let names : ContextView = names_inside c.args.layer.now (g.P.ContextProvider.context c.args.self.now.provider.now) in
    let n = c.args.notes.now.count in
    let a = c.args.notes.now.parts.items in
    let u = term_of c.args.node.now in
    let op = c.in-Operation.operator in
    let l = term_of c.deref-in-Operation.result.now in
    let r = term_of c.deref-in-Operation-2.result.now in
    let is : u ≡ operation op l r =
    ap term_of c.in-Operation.is ∙ term_of-Operation op c.in-Operation.left c.in-Operation.right c.in-Operation.compiled_regex
    ∙ (λ i. operation op (term_of ((sym c.deref-in-Operation.ensures) i)) (term_of ((sym c.deref-in-Operation-2.ensures) i))) in
    let v = c.in_ok-first-in-Operation.first in
    let said = c.in_ok-first-in-Operation.ensures in
    let b = c.visit-in-Operation.new.notes in
    tells_operation host names n b.count u a b.parts.items c.right_side.new.notes.parts.items op l r v is said.count said.answer c.visit-in-Operation.ensures.told c.right_side.ensures.told

pub look_into-returns-in_err-condition-in-Conditional-clause-told : goal.look_into-returns-in_err-condition-in-Conditional-clause-told
look_into-returns-in_err-condition-in-Conditional-clause-told g t c =
    let host : Host = g.H.Functions.host c.args.self.now.host.now in
    let names : ContextView = names_inside c.args.layer.now (g.P.ContextProvider.context c.args.self.now.provider.now) in
    let n = c.args.notes.now.count in
    let a = c.args.notes.now.parts.items in
    let u = term_of c.args.node.now in
    let x = term_of c.deref-in-Conditional.result.now in
    let first = program_term c.in-Conditional.consequent.value in
    let second = program_term c.in-Conditional.alternative.value in
    let is : u ≡ choice x first second =
    ap term_of c.in-Conditional.is ∙ term_of-Conditional c.in-Conditional.condition c.in-Conditional.consequent c.in-Conditional.alternative
    ∙ ap (λ m. choice (term_of m) first second) (sym c.deref-in-Conditional.ensures) in
    tells_condition host names n u a c.visit-in-Conditional.new.notes.parts.items x first second is c.visit-in-Conditional.ensures.told

pub look_into-returns-in_ok-condition-in-Conditional-clause-answer : goal.look_into-returns-in_ok-condition-in-Conditional-clause-answer
look_into-returns-in_ok-condition-in-Conditional-clause-answer g t c =
    let host : Host = g.H.Functions.host c.args.self.now.host.now in
    let names : ContextView = names_inside c.args.layer.now (g.P.ContextProvider.context c.args.self.now.provider.now) in
    let n = c.args.notes.now.count in
    let a = c.args.notes.now.parts.items in
    let world : World = world_of host names in
    let u = term_of c.args.node.now in
    let x = term_of c.deref-in-Conditional.result.now in
    let first = program_term c.deref-in-Conditional-2.result.now in
    let second = program_term c.deref-in-Conditional-3.result.now in
    let is : u ≡ choice x first second =
    ap term_of c.in-Conditional.is ∙ term_of-Conditional c.in-Conditional.condition c.in-Conditional.consequent c.in-Conditional.alternative
    ∙ (λ i. choice (term_of ((sym c.deref-in-Conditional.ensures) i)) (program_term ((sym c.deref-in-Conditional-2.ensures) i)) (program_term ((sym c.deref-in-Conditional-3.ensures) i))) in
    let v = c.in_ok-condition-in-Conditional.condition in
    let said = c.in_ok-condition-in-Conditional.ensures in
    subst (λ k. Returns c.selected_program.result (Allows world k)) (sym is) (
    Returns-under c.selected_program.result (BranchMayReturn v (AllowsBlock world first) (AllowsBlock world second)) (Allows world (choice x first second)) (λ y p. (Ok v, said.answer, p)) c.selected_program.ensures.answer
    )

pub look_into-returns-in_ok-condition-in-Conditional-clause-told : goal.look_into-returns-in_ok-condition-in-Conditional-clause-told
look_into-returns-in_ok-condition-in-Conditional-clause-told g t c =
    let host : Host = g.H.Functions.host c.args.self.now.host.now in
    let names : ContextView = names_inside c.args.layer.now (g.P.ContextProvider.context c.args.self.now.provider.now) in
    let n = c.args.notes.now.count in
    let a = c.args.notes.now.parts.items in
    let u = term_of c.args.node.now in
    let x = term_of c.deref-in-Conditional.result.now in
    let first = program_term c.deref-in-Conditional-2.result.now in
    let second = program_term c.deref-in-Conditional-3.result.now in
    let is : u ≡ choice x first second =
    ap term_of c.in-Conditional.is ∙ term_of-Conditional c.in-Conditional.condition c.in-Conditional.consequent c.in-Conditional.alternative
    ∙ (λ i. choice (term_of ((sym c.deref-in-Conditional.ensures) i)) (program_term ((sym c.deref-in-Conditional-2.ensures) i)) (program_term ((sym c.deref-in-Conditional-3.ensures) i))) in
    let v = c.in_ok-condition-in-Conditional.condition in
    let said = c.in_ok-condition-in-Conditional.ensures in
    let b = c.visit-in-Conditional.new.notes in
    tells_choice host names n b.count u a b.parts.items c.selected_program.new.notes.parts.items x first second v is said.count said.answer c.visit-in-Conditional.ensures.told c.selected_program.ensures.told

pub look_into-returns-in_err-skip_inside-in_default-clause-told : goal.look_into-returns-in_err-skip_inside-in_default-clause-told
look_into-returns-in_err-skip_inside-in_default-clause-told g t c =
    let host : Host = g.H.Functions.host c.args.self.now.host.now in
    let names : ContextView = names_inside c.args.layer.now (g.P.ContextProvider.context c.args.self.now.provider.now) in
    let n = c.args.notes.now.count in
    let a = c.args.notes.now.parts.items in
    let u = term_of c.args.node.now in
    tells_none host (InParts host names n u) a c.skip_inside.new.self.parts.items c.skip_inside.ensures.parts

pub look_into-returns-in_ok-skip_inside-in_default-clause-told : goal.look_into-returns-in_ok-skip_inside-in_default-clause-told
look_into-returns-in_ok-skip_inside-in_default-clause-told g t c =
    let host : Host = g.H.Functions.host c.args.self.now.host.now in
    let names : ContextView = names_inside c.args.layer.now (g.P.ContextProvider.context c.args.self.now.provider.now) in
    let n = c.args.notes.now.count in
    let a = c.args.notes.now.parts.items in
    let u = term_of c.args.node.now in
    tells_none host (InParts host names n u) a c.skip_inside.new.self.parts.items c.skip_inside.ensures.parts

-- what is inside of a node weighs less
pub look_into-visit-requires : goal.look_into-visit-requires
look_into-visit-requires g t c =
    let whole = ap (λ (m : Node). weight (term_of m)) c.in-Unary.is ∙ weight-Unary c.in-Unary.operator c.in-Unary.node in
    let smaller : 4 * weight (term_of c.deref.result.now) + 1 < 4 * weight (term_of c.args.node.now) = omega (arith, whole, ap (λ (m : Node). weight (term_of m)) c.deref.ensures) in
    search rules

pub look_into-visit-requires-in-Operation : goal.look_into-visit-requires-in-Operation
look_into-visit-requires-in-Operation g t c =
    let whole = ap (λ (m : Node). weight (term_of m)) c.in-Operation.is ∙ weight-Operation c.in-Operation.operator c.in-Operation.left c.in-Operation.right c.in-Operation.compiled_regex in
    let smaller : 4 * weight (term_of c.deref-in-Operation.result.now) + 1 < 4 * weight (term_of c.args.node.now) = omega (arith, whole, ap (λ (m : Node). weight (term_of m)) c.deref-in-Operation.ensures) in
    search rules

pub look_into-right_side-requires : goal.look_into-right_side-requires
look_into-right_side-requires g t c =
    let whole = ap (λ (m : Node). weight (term_of m)) c.in-Operation.is ∙ weight-Operation c.in-Operation.operator c.in-Operation.left c.in-Operation.right c.in-Operation.compiled_regex in
    let smaller : 4 * weight (term_of c.deref-in-Operation-2.result.now) + 2 < 4 * weight (term_of c.args.node.now) = omega (arith, whole, ap (λ (m : Node). weight (term_of m)) c.deref-in-Operation-2.ensures) in
    search rules

pub look_into-visit-requires-in-Conditional : goal.look_into-visit-requires-in-Conditional
look_into-visit-requires-in-Conditional g t c =
    let whole = ap (λ (m : Node). weight (term_of m)) c.in-Conditional.is ∙ weight-Conditional c.in-Conditional.condition c.in-Conditional.consequent c.in-Conditional.alternative in
    let smaller : 4 * weight (term_of c.deref-in-Conditional.result.now) + 1 < 4 * weight (term_of c.args.node.now) = omega (arith, whole, ap (λ (m : Node). weight (term_of m)) c.deref-in-Conditional.ensures) in
    search rules

pub look_into-selected_program-requires : goal.look_into-selected_program-requires
look_into-selected_program-requires g t c =
    let whole = ap (λ (m : Node). weight (term_of m)) c.in-Conditional.is ∙ weight-Conditional c.in-Conditional.condition c.in-Conditional.consequent c.in-Conditional.alternative in
    let smaller : 4 * (block_weight (program_term c.deref-in-Conditional-2.result.now) + block_weight (program_term c.deref-in-Conditional-3.result.now)) + 3 < 4 * weight (term_of c.args.node.now) = omega (arith, whole, ap (λ (m : Program). block_weight (program_term m)) c.deref-in-Conditional-2.ensures, ap (λ (m : Program). block_weight (program_term m)) c.deref-in-Conditional-3.ensures) in
    search rules

-- the right side of an operator
pub right_side-returns-in_err-skip-in-Some-clause-told : goal.right_side-returns-in_err-skip-in-Some-clause-told
right_side-returns-in_err-skip-in-Some-clause-told g t c =
    let host : Host = g.H.Functions.host c.args.self.now.host.now in
    let names : ContextView = names_inside c.args.layer.now (g.P.ContextProvider.context c.args.self.now.provider.now) in
    let n = c.args.notes.now.count in
    let a = c.args.notes.now.parts.items in
    let op = c.args.operator in
    let v = c.args.first.now in
    let r = term_of c.args.right.now in
    let among = InRight host op v names n r in
    tells_none host among a c.skip.new.self.parts.items c.skip.ensures.parts

pub right_side-returns-in_err-second-in-None-clause-told : goal.right_side-returns-in_err-second-in-None-clause-told
right_side-returns-in_err-second-in-None-clause-told g t c =
    let host : Host = g.H.Functions.host c.args.self.now.host.now in
    let names : ContextView = names_inside c.args.layer.now (g.P.ContextProvider.context c.args.self.now.provider.now) in
    let n = c.args.notes.now.count in
    let a = c.args.notes.now.parts.items in
    let op = c.args.operator in
    let v = c.args.first.now in
    let r = term_of c.args.right.now in
    let among = InRight host op v names n r in
    let on : GoesRight op v = subst (λ k. MatchOption k (GoesRight op v) (λ w. EndsWithLeft op v (Ok w))) c.in-None.is c.in_ok-answer.ensures.ok in
    tells_right host names n n v a c.visit.new.notes.parts.items op r on c.visit.ensures.told

pub right_side-returns-in_ok-skip-in-Some-clause-told : goal.right_side-returns-in_ok-skip-in-Some-clause-told
right_side-returns-in_ok-skip-in-Some-clause-told g t c =
    let host : Host = g.H.Functions.host c.args.self.now.host.now in
    let names : ContextView = names_inside c.args.layer.now (g.P.ContextProvider.context c.args.self.now.provider.now) in
    let n = c.args.notes.now.count in
    let a = c.args.notes.now.parts.items in
    let op = c.args.operator in
    let v = c.args.first.now in
    let r = term_of c.args.right.now in
    let among = InRight host op v names n r in
    tells_none host among a c.skip.new.self.parts.items c.skip.ensures.parts

pub right_side-returns-in_ok-second-in-None-clause-told : goal.right_side-returns-in_ok-second-in-None-clause-told
right_side-returns-in_ok-second-in-None-clause-told g t c =
    let host : Host = g.H.Functions.host c.args.self.now.host.now in
    let names : ContextView = names_inside c.args.layer.now (g.P.ContextProvider.context c.args.self.now.provider.now) in
    let n = c.args.notes.now.count in
    let a = c.args.notes.now.parts.items in
    let op = c.args.operator in
    let v = c.args.first.now in
    let r = term_of c.args.right.now in
    let among = InRight host op v names n r in
    let on : GoesRight op v = subst (λ k. MatchOption k (GoesRight op v) (λ w. EndsWithLeft op v (Ok w))) c.in-None.is c.in_ok-answer.ensures.ok in
    tells_right host names n n v a c.visit.new.notes.parts.items op r on c.visit.ensures.told

pub right_side-returns-in_ok-second-in-None-clause-answer : goal.right_side-returns-in_ok-second-in-None-clause-answer
right_side-returns-in_ok-second-in-None-clause-answer g t c =
    let host : Host = g.H.Functions.host c.args.self.now.host.now in
    let names : ContextView = names_inside c.args.layer.now (g.P.ContextProvider.context c.args.self.now.provider.now) in
    let n = c.args.notes.now.count in
    let a = c.args.notes.now.parts.items in
    let world : World = world_of host names in
    let op = c.args.operator in
    let v = c.args.first.now in
    let r = term_of c.args.right.now in
    let among = InRight host op v names n r in
    let y = c.in_ok-second-in-None.second in
    let said = c.in_ok-second-in-None.ensures.answer in
    Returns-under c.joined_sides.result (OperationMayReturn op v (λ k. k ≡ Ok y)) (OperationMayReturn op v (Allows world r)) (
    operation_under op v (λ k. k ≡ Ok y) (Allows world r) (λ k e. subst (Allows world r) (sym e) said)
    ) c.joined_sides.ensures

-- what a condition selects
pub selected_program-returns-in_err-value-in-Bool-true-clause-told : goal.selected_program-returns-in_err-value-in-Bool-true-clause-told
selected_program-returns-in_err-value-in-Bool-true-clause-told g t c =
    let host : Host = g.H.Functions.host c.args.self.now.host.now in
    let names : ContextView = names_inside c.args.layer.now (g.P.ContextProvider.context c.args.self.now.provider.now) in
    let n = c.args.notes.now.count in
    let a = c.args.notes.now.parts.items in
    let v = c.args.condition.now in
    let first = program_term c.args.consequent.now in
    let second = program_term c.args.alternative.now in
    let among = InBranches host v names n first second in
    tells_branch_one host names n n v a c.block.new.notes.parts.items first second (c.in-Bool-true.is ∙ ap value.Bool (sym c.in-Bool-true.field-0-is ∙ c.in-Bool-true.field-0-test)) c.block.ensures.told

pub selected_program-returns-in_err-skip_program-in-Bool-true-clause-told : goal.selected_program-returns-in_err-skip_program-in-Bool-true-clause-told
selected_program-returns-in_err-skip_program-in-Bool-true-clause-told g t c =
    let host : Host = g.H.Functions.host c.args.self.now.host.now in
    let names : ContextView = names_inside c.args.layer.now (g.P.ContextProvider.context c.args.self.now.provider.now) in
    let n = c.args.notes.now.count in
    let a = c.args.notes.now.parts.items in
    let v = c.args.condition.now in
    let first = program_term c.args.consequent.now in
    let second = program_term c.args.alternative.now in
    let among = InBranches host v names n first second in
    let b = c.block.new.notes.parts.items in
    tells_same host among a b c.skip_program.new.self.parts.items c.skip_program.ensures.parts (tells_branch_one host names n n v a b first second (c.in-Bool-true.is ∙ ap value.Bool (sym c.in-Bool-true.field-0-is ∙ c.in-Bool-true.field-0-test)) c.block.ensures.told)

pub selected_program-returns-in_ok-skip_program-in-Bool-true-clause-told : goal.selected_program-returns-in_ok-skip_program-in-Bool-true-clause-told
selected_program-returns-in_ok-skip_program-in-Bool-true-clause-told g t c =
    let host : Host = g.H.Functions.host c.args.self.now.host.now in
    let names : ContextView = names_inside c.args.layer.now (g.P.ContextProvider.context c.args.self.now.provider.now) in
    let n = c.args.notes.now.count in
    let a = c.args.notes.now.parts.items in
    let v = c.args.condition.now in
    let first = program_term c.args.consequent.now in
    let second = program_term c.args.alternative.now in
    let among = InBranches host v names n first second in
    let b = c.block.new.notes.parts.items in
    tells_same host among a b c.skip_program.new.self.parts.items c.skip_program.ensures.parts (tells_branch_one host names n n v a b first second (c.in-Bool-true.is ∙ ap value.Bool (sym c.in-Bool-true.field-0-is ∙ c.in-Bool-true.field-0-test)) c.block.ensures.told)

pub selected_program-returns-in_err-skip_program-in-Bool-false-clause-told : goal.selected_program-returns-in_err-skip_program-in-Bool-false-clause-told
selected_program-returns-in_err-skip_program-in-Bool-false-clause-told g t c =
    let host : Host = g.H.Functions.host c.args.self.now.host.now in
    let names : ContextView = names_inside c.args.layer.now (g.P.ContextProvider.context c.args.self.now.provider.now) in
    let n = c.args.notes.now.count in
    let a = c.args.notes.now.parts.items in
    let v = c.args.condition.now in
    let first = program_term c.args.consequent.now in
    let second = program_term c.args.alternative.now in
    let among = InBranches host v names n first second in
    tells_none host among a c.skip_program-in-Bool-false.new.self.parts.items c.skip_program-in-Bool-false.ensures.parts

pub selected_program-returns-in_ok-skip_program-in-Bool-false-clause-told : goal.selected_program-returns-in_ok-skip_program-in-Bool-false-clause-told
selected_program-returns-in_ok-skip_program-in-Bool-false-clause-told g t c =
    let host : Host = g.H.Functions.host c.args.self.now.host.now in
    let names : ContextView = names_inside c.args.layer.now (g.P.ContextProvider.context c.args.self.now.provider.now) in
    let n = c.args.notes.now.count in
    let a = c.args.notes.now.parts.items in
    let v = c.args.condition.now in
    let first = program_term c.args.consequent.now in
    let second = program_term c.args.alternative.now in
    let among = InBranches host v names n first second in
    let b = c.skip_program-in-Bool-false.new.self in
    let d = c.block-in-Bool-false.new.notes.parts.items in
    subst (λ xs. TellsOf host among xs d) c.skip_program-in-Bool-false.ensures.parts (
    tells_branch_two host names n b.count v b.parts.items d first second (c.in-Bool-false.is ∙ ap value.Bool (sym c.in-Bool-false.field-0-is ∙ c.in-Bool-false.field-0-test)) c.in_ok-skip_program-in-Bool-false.ensures.count c.block-in-Bool-false.ensures.told
    )

pub selected_program-returns-in_default-clause-told : goal.selected_program-returns-in_default-clause-told
selected_program-returns-in_default-clause-told g t c =
    let host : Host = g.H.Functions.host c.args.self.now.host.now in
    let names : ContextView = names_inside c.args.layer.now (g.P.ContextProvider.context c.args.self.now.provider.now) in
    let n = c.args.notes.now.count in
    let a = c.args.notes.now.parts.items in
    let v = c.args.condition.now in
    let first = program_term c.args.consequent.now in
    let second = program_term c.args.alternative.now in
    let among = InBranches host v names n first second in
    tells_none host among a a refl

-- a program
pub block-returns-in_err-value-clause-answer : goal.block-returns-in_err-value-clause-answer
block-returns-in_err-value-clause-answer g t c =
    let host : Host = g.H.Functions.host c.args.self.now.host.now in
    let names : ContextView = names_inside c.args.layer.now (g.P.ContextProvider.context c.args.self.now.provider.now) in
    let n = c.args.notes.now.count in
    let a = c.args.notes.now.parts.items in
    let base : ContextView = g.P.ContextProvider.context c.args.self.now.provider.now in
    let p = c.args.program.now in
    let lines_of = λ (ls : List (String Global × Node)). block_of (map (λ l. (l.0, term_of l.1)) ls) (term_of p.expr) in
    let lines = p.lines.items in
    let i = c.loop-name.name-index in
    let inner = c.loop-name.inner in
    let here = names_inside inner base in
    let m = c.loop-name.notes.count in
    let b = c.loop-name.notes.parts.items in
    let same : c.deref-name-items.result.now ≡ lines = c.deref-name-items.ensures.value in
    let whole = InBlock host names n (program_term p) in
    let l = c.loop-name-item.result in
    let below : i < length lines = subst (λ xs. i < length xs) same c.loop-name-test.true in
    let at : drop i lines ≡ l ∷ drop (i + 1) lines =
    subst (λ xs. drop i xs ≡ l ∷ drop (i + 1) xs) same (
    drop_more c.deref-name-items.result.now i l c.loop-name-test.true ∙ ap (λ y. y ∷ drop (i + 1) c.deref-name-items.result.now) (sym c.loop-name-item.is)
    ) in
    let d = c.visit.new.notes.parts.items in
    let told : TellsOf host whole a d =
    tells_then host whole a b d c.loop-name.invariant.told (
    tells_among host (InTree host here m (term_of l.1)) whole b d (
    λ s x. c.loop-name.invariant.spots s (subst (λ ls. InBlock host here m (lines_of ls) s) (sym at) (inl x))
    ) c.visit.ensures.told
    ) in
    let k = error_kind c.in_err-value.field-0.0 in
    Returns-passed c.from_residual.result c.in_err-value.field-0.0 (AllowsBlock (world_of host names) (program_term p)) c.from_residual.ensures.1 (
    λ e. c.loop-name.invariant.answers (Err k) (
    subst (λ ls. AllowsBlock (world_of host here) (lines_of ls) (Err k)) (sym at) (Err k, c.in_err-value.ensures.answer e, refl)
    )
    )

pub block-returns-in_err-value-clause-told : goal.block-returns-in_err-value-clause-told
block-returns-in_err-value-clause-told g t c =
    let host : Host = g.H.Functions.host c.args.self.now.host.now in
    let names : ContextView = names_inside c.args.layer.now (g.P.ContextProvider.context c.args.self.now.provider.now) in
    let n = c.args.notes.now.count in
    let a = c.args.notes.now.parts.items in
    let base : ContextView = g.P.ContextProvider.context c.args.self.now.provider.now in
    let p = c.args.program.now in
    let lines_of = λ (ls : List (String Global × Node)). block_of (map (λ l. (l.0, term_of l.1)) ls) (term_of p.expr) in
    let lines = p.lines.items in
    let i = c.loop-name.name-index in
    let inner = c.loop-name.inner in
    let here = names_inside inner base in
    let m = c.loop-name.notes.count in
    let b = c.loop-name.notes.parts.items in
    let same : c.deref-name-items.result.now ≡ lines = c.deref-name-items.ensures.value in
    let whole = InBlock host names n (program_term p) in
    let l = c.loop-name-item.result in
    let below : i < length lines = subst (λ xs. i < length xs) same c.loop-name-test.true in
    let at : drop i lines ≡ l ∷ drop (i + 1) lines =
    subst (λ xs. drop i xs ≡ l ∷ drop (i + 1) xs) same (
    drop_more c.deref-name-items.result.now i l c.loop-name-test.true ∙ ap (λ y. y ∷ drop (i + 1) c.deref-name-items.result.now) (sym c.loop-name-item.is)
    ) in
    let d = c.visit.new.notes.parts.items in
    let told : TellsOf host whole a d =
    tells_then host whole a b d c.loop-name.invariant.told (
    tells_among host (InTree host here m (term_of l.1)) whole b d (
    λ s x. c.loop-name.invariant.spots s (subst (λ ls. InBlock host here m (lines_of ls) s) (sym at) (inl x))
    ) c.visit.ensures.told
    ) in
    told

pub block-returns-in_err-push-clause-told : goal.block-returns-in_err-push-clause-told
block-returns-in_err-push-clause-told g t c =
    let host : Host = g.H.Functions.host c.args.self.now.host.now in
    let names : ContextView = names_inside c.args.layer.now (g.P.ContextProvider.context c.args.self.now.provider.now) in
    let n = c.args.notes.now.count in
    let a = c.args.notes.now.parts.items in
    let base : ContextView = g.P.ContextProvider.context c.args.self.now.provider.now in
    let p = c.args.program.now in
    let lines_of = λ (ls : List (String Global × Node)). block_of (map (λ l. (l.0, term_of l.1)) ls) (term_of p.expr) in
    let lines = p.lines.items in
    let i = c.loop-name.name-index in
    let inner = c.loop-name.inner in
    let here = names_inside inner base in
    let m = c.loop-name.notes.count in
    let b = c.loop-name.notes.parts.items in
    let same : c.deref-name-items.result.now ≡ lines = c.deref-name-items.ensures.value in
    let whole = InBlock host names n (program_term p) in
    let l = c.loop-name-item.result in
    let below : i < length lines = subst (λ xs. i < length xs) same c.loop-name-test.true in
    let at : drop i lines ≡ l ∷ drop (i + 1) lines =
    subst (λ xs. drop i xs ≡ l ∷ drop (i + 1) xs) same (
    drop_more c.deref-name-items.result.now i l c.loop-name-test.true ∙ ap (λ y. y ∷ drop (i + 1) c.deref-name-items.result.now) (sym c.loop-name-item.is)
    ) in
    let d = c.visit.new.notes.parts.items in
    let told : TellsOf host whole a d =
    tells_then host whole a b d c.loop-name.invariant.told (
    tells_among host (InTree host here m (term_of l.1)) whole b d (
    λ s x. c.loop-name.invariant.spots s (subst (λ ls. InBlock host here m (lines_of ls) s) (sym at) (inl x))
    ) c.visit.ensures.told
    ) in
    told

pub block-loop-name-preserved : goal.block-loop-name-preserved
block-loop-name-preserved g t c =
    let host : Host = g.H.Functions.host c.args.self.now.host.now in
    let names : ContextView = names_inside c.args.layer.now (g.P.ContextProvider.context c.args.self.now.provider.now) in
    let n = c.args.notes.now.count in
    let a = c.args.notes.now.parts.items in
    let base : ContextView = g.P.ContextProvider.context c.args.self.now.provider.now in
    let p = c.args.program.now in
    let lines_of = λ (ls : List (String Global × Node)). block_of (map (λ l. (l.0, term_of l.1)) ls) (term_of p.expr) in
    let lines = p.lines.items in
    let i = c.loop-name.name-index in
    let inner = c.loop-name.inner in
    let here = names_inside inner base in
    let m = c.loop-name.notes.count in
    let b = c.loop-name.notes.parts.items in
    let same : c.deref-name-items.result.now ≡ lines = c.deref-name-items.ensures.value in
    let whole = InBlock host names n (program_term p) in
    let l = c.loop-name-item.result in
    let below : i < length lines = subst (λ xs. i < length xs) same c.loop-name-test.true in
    let at : drop i lines ≡ l ∷ drop (i + 1) lines =
    subst (λ xs. drop i xs ≡ l ∷ drop (i + 1) xs) same (
    drop_more c.deref-name-items.result.now i l c.loop-name-test.true ∙ ap (λ y. y ∷ drop (i + 1) c.deref-name-items.result.now) (sym c.loop-name-item.is)
    ) in
    let d = c.visit.new.notes.parts.items in
    let told : TellsOf host whole a d =
    tells_then host whole a b d c.loop-name.invariant.told (
    tells_among host (InTree host here m (term_of l.1)) whole b d (
    λ s x. c.loop-name.invariant.spots s (subst (λ ls. InBlock host here m (lines_of ls) s) (sym at) (inl x))
    ) c.visit.ensures.told
    ) in
    let v = c.in_ok-value.value in
    let after : Layer-F Layer = record { lines = c.push.new.self; outer = (out-Layer inner).outer } in
    let rolled = out-roll-Layer after in
    let one : LineValue = record { name = c.deref.result; value = v } in
    let named : one.name.now ≡ string_bytes l.0 = search rules in
    let bound : names_inside (roll-Layer after) base ≡ override here (string_bytes l.0) v =
    names_inside-pushed inner (roll-Layer after) one base (ap (λ (r : Layer-F Layer). r.lines.items) rolled ∙ c.in_ok-push.ensures.items) (ap (λ (r : Layer-F Layer). r.outer) rolled)
    ∙ ap (λ k. override here k v) named in
    let rest = lines_of (drop (i + 1) lines) in
    let next = c.visit.new.notes.count in
    let said = c.in_ok-value.ensures in
    let within : m + block_weight (lines_of (l ∷ drop (i + 1) lines)) ≡ n + block_weight (program_term p) =
    subst (λ ls. m + block_weight (lines_of ls) ≡ n + block_weight (program_term p)) at c.loop-name.invariant.counts in
    record {
      answers = λ answer q. c.loop-name.invariant.answers answer (
          subst (λ ls. AllowsBlock (world_of host here) (lines_of ls) answer) (sym at) (
          line_allows host here (names_inside (roll-Layer after) base) m next (string_bytes l.0) (term_of l.1) v rest said.count bound said.answer answer q
          )
          );
      counts = omega (arith, within, said.count);
      spots = λ s x. c.loop-name.invariant.spots s (
          subst (λ ls. InBlock host here m (lines_of ls) s) (sym at) (
          line_spots host here (names_inside (roll-Layer after) base) m next (string_bytes l.0) (term_of l.1) v rest said.count bound said.answer s x
          )
          );
      told = told;
    }

pub block-returns-clause-told : goal.block-returns-clause-told
block-returns-clause-told g t c =
    let host : Host = g.H.Functions.host c.args.self.now.host.now in
    let names : ContextView = names_inside c.args.layer.now (g.P.ContextProvider.context c.args.self.now.provider.now) in
    let n = c.args.notes.now.count in
    let a = c.args.notes.now.parts.items in
    let base : ContextView = g.P.ContextProvider.context c.args.self.now.provider.now in
    let p = c.args.program.now in
    let lines_of = λ (ls : List (String Global × Node)). block_of (map (λ l. (l.0, term_of l.1)) ls) (term_of p.expr) in
    let lines = p.lines.items in
    let i = c.loop-name.name-index in
    let inner = c.loop-name.inner in
    let here = names_inside inner base in
    let m = c.loop-name.notes.count in
    let b = c.loop-name.notes.parts.items in
    let same : c.deref-name-items.result.now ≡ lines = c.deref-name-items.ensures.value in
    let whole = InBlock host names n (program_term p) in
    let over : length lines ≤ i = subst (λ xs. length xs ≤ i) same c.loop-name-test.false in
    let d = c.visit-2.new.notes.parts.items in
    tells_then host whole a b d c.loop-name.invariant.told (
    tells_among host (InTree host here m (term_of p.expr)) whole b d (
    λ s x. c.loop-name.invariant.spots s (subst (λ ls. InBlock host here m (lines_of ls) s) (sym (drop_all i lines over)) x)
    ) c.visit-2.ensures.told
    )

pub block-visit-requires : goal.block-visit-requires
block-visit-requires g t c =
    let p = c.args.program.now in
    let l = c.loop-name-item.result in
    let within : weight (term_of l.1) ≤ named_weight c.deref-name-items.result.now = line_within c.deref-name-items.result.now c.loop-name.name-index l c.loop-name-item.is c.loop-name-test.true in
    let smaller : 4 * weight (term_of l.1) + 1 < 4 * block_weight (program_term p) + 2 = omega (arith, within, program-parts p, ap named_weight c.deref-name-items.ensures.value) in
    search rules

pub block-visit-requires-2 : goal.block-visit-requires-2
block-visit-requires-2 g t c =
    let p = c.args.program.now in
    let smaller : 4 * weight (term_of p.expr) + 1 < 4 * block_weight (program_term p) + 2 = omega (arith, program-parts p) in
    search rules
