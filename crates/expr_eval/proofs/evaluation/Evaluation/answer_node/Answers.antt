use Rattle.std.proofs.Common.{◌≡◌, Err, Option, List, ℕ, Box, Global, ap, sym, ◌∙◌, subst}
use Rattle.std.specs.Option.{option_copied}
use Rattle.expr_meaning.specs.Allows.{Allows}
use Rattle.expr_meaning.specs.World.{World}
use Rattle.expr_eval.specs.Here.{outermost}
use Rattle.expr_eval.specs.Handed.{IsHanded, IsKeeping}
use Rattle.expr_eval.specs.NodePromises.{PatternsAreOf, TakesNoMemory}
use Rattle.expr_eval.proofs.Handed.{kept_handed, kept_left}
use Rattle.expr_tree.proofs.Shapes.{term_of-Operation}
use Rattle.expr_tree.specs.Term.{operation}
use Rattle.expr_tree.specs.TermOf.{term_of}
use Rattle.expr_tree.specs.declared.node.Node.{Node}
use Rattle.expr_value.specs.Answers.{Returns}
use Rattle.expr_eval.proofs.evaluation.Evaluation.answer_node.Goals as goal

pub returns-in-Operation : goal.returns-in-Operation
returns-in-Operation g c =
    let world : World = outermost g.H.Functions.host g.P.ContextProvider.context c.args.self.now in
    let op = c.in-Operation.operator in
    let l = c.in-Operation.left in
    let r = c.in-Operation.right in
    let kept = c.in-Operation.compiled_regex in
    let out = c.answer_operation.result in
    let is : operation op (term_of c.deref.result.now) (term_of c.deref-in-Operation.result.now) ≡ term_of c.args.node.now =
    (λ i. operation op (term_of (c.deref.ensures i)) (term_of (c.deref-in-Operation.ensures i))) ∙ sym (ap term_of c.in-Operation.is ∙ term_of-Operation op l r kept) in
    record {
      answer = subst (λ n. Returns out (Allows world n)) is c.answer_operation.ensures.answer;
      alloc_free = subst (λ n. TakesNoMemory world n out) is c.answer_operation.ensures.alloc_free;
      kept = λ k.
          let handed = subst (λ o. IsHanded op (term_of r.value) o) (sym c.pattern.ensures) (kept_handed c.args.node.now op l r kept c.in-Operation.is k) in
          let beside = subst (λ m. IsHanded op (term_of m) (option_copied c.pattern.result)) (sym c.deref-in-Operation.ensures) handed in
          let found = subst (λ m. PatternsAreOf world (term_of m) out) c.deref.ensures (c.answer_operation.ensures.handed beside) in
          subst (λ (b : Box Node Global). PatternsAreOf world (term_of b.value) out) (sym (kept_left c.args.node.now op l r kept c.in-Operation.is k)) found;
    }
