use Rattle.std.proofs.Common.{◌+◌, ◌<◌, ◌≤◌, IfOk, Some, arith, sym, subst, ap, ◌∙◌}
use Rattle.std.specs.Box as Box
use Rattle.expr_tree.specs.Weight.{weight, predicate_weight}
use Rattle.expr_tree.specs.TermOf.{term_of, predicate_term}
use Rattle.expr_tree.specs.declared.node.Node.TheViews.{roll-Program}
use Rattle.expr_tree.specs.declared.node.Program.{Program}
use Rattle.expr_tree.proofs.Weights.{node_weight, named_weight, program-parts, rolled-parts, weight-Map, weight-Range, weight-Func, weight-Operation, weight-Postfix, weight-Conditional}
use Rattle.expr_tree.proofs.node.Node.link.Goals as goal

pub returns-in-Map-clause-parts : goal.returns-in-Map-clause-parts
returns-in-Map-clause-parts c =
    subst (λ n. IfOk c.linked_pairs.result (λ r. weight (term_of r.0) + weight (term_of r.1) ≤ n + weight (term_of c.args.chain)))
    (sym (ap node_weight c.in-Map.is ∙ weight-Map c.in-Map.pairs)) c.linked_pairs.ensures.parts

pub returns-in-Map-clause-first : goal.returns-in-Map-clause-first
returns-in-Map-clause-first c =
    subst (λ n. IfOk c.linked_pairs.result (λ r. weight (term_of r.0) < n)) (sym (ap node_weight c.in-Map.is ∙ weight-Map c.in-Map.pairs)) c.linked_pairs.ensures.first

pub returns-in-Range-clause-parts : goal.returns-in-Range-clause-parts
returns-in-Range-clause-parts c =
    omega (
      arith,
      ap node_weight c.in-Range.is ∙ weight-Range c.in-Range.first c.in-Range.last,
      weight-Range (Box.with_value c.in-Range.first c.replace-node.new.dest) c.in-Range.last,
      ap node_weight c.as_mut.ensures.value,
      ap node_weight c.replace-node.ensures.value,
      ap node_weight c.replace-node.ensures.after,
    )

pub returns-in-Some-clause-parts : goal.returns-in-Some-clause-parts
returns-in-Some-clause-parts c =
    omega (
      arith,
      ap node_weight c.in-Func.is ∙ weight-Func c.in-Func.ident c.in-Func.args c.in-Func.predicate,
      ap (λ p. predicate_weight (predicate_term p)) c.in-Some.is,
      program-parts c.in-Some.program.value,
      weight-Func c.in-Func.ident c.in-Func.args (Some (Box.with_value c.in-Some.program (roll-Program (record { lines = c.deref_mut.result.now.lines; expr = c.replace-node-in-Some.new.dest })))),
      rolled-parts c.deref_mut.result.now.lines c.replace-node-in-Some.new.dest,
      ap (λ (p : Program). named_weight p.lines.items) c.deref_mut.ensures.value,
      ap (λ (p : Program). node_weight p.expr) c.deref_mut.ensures.value,
      ap node_weight c.replace-node-in-Some.ensures.value,
      ap node_weight c.replace-node-in-Some.ensures.after,
    )

pub returns-in-Some-clause-first : goal.returns-in-Some-clause-first
returns-in-Some-clause-first c =
    omega (
      arith,
      ap node_weight c.in-Func.is ∙ weight-Func c.in-Func.ident c.in-Func.args c.in-Func.predicate,
      ap (λ p. predicate_weight (predicate_term p)) c.in-Some.is,
      program-parts c.in-Some.program.value,
      ap (λ (p : Program). node_weight p.expr) c.deref_mut.ensures.value,
      ap node_weight c.replace-node-in-Some.ensures.value,
    )

pub returns-in-Operation-clause-parts : goal.returns-in-Operation-clause-parts
returns-in-Operation-clause-parts c =
    omega (
      arith,
      ap node_weight c.in-Operation.is ∙ weight-Operation c.in-Operation.operator c.in-Operation.left c.in-Operation.right c.in-Operation.compiled_regex,
      weight-Range (Box.with_value c.in-Operation.left c.replace-node-in-Operation.new.dest) c.in-Operation.right,
      ap node_weight c.as_mut-in-Operation.ensures.value,
      ap node_weight c.replace-node-in-Operation.ensures.value,
      ap node_weight c.replace-node-in-Operation.ensures.after,
    )

pub returns-in-Postfix-clause-parts : goal.returns-in-Postfix-clause-parts
returns-in-Postfix-clause-parts c =
    omega (
      arith,
      ap node_weight c.in-Postfix.is ∙ weight-Postfix c.in-Postfix.operator c.in-Postfix.node,
      weight-Postfix c.in-Postfix.operator (Box.with_value c.in-Postfix.node c.replace-first.new.dest),
      ap node_weight c.as_mut-in-Postfix.ensures.value,
      ap node_weight c.replace-first.ensures.value,
      ap node_weight c.replace-first.ensures.after,
    )

pub returns-in-Conditional-clause-parts : goal.returns-in-Conditional-clause-parts
returns-in-Conditional-clause-parts c =
    omega (
      arith,
      ap node_weight c.in-Conditional.is ∙ weight-Conditional c.in-Conditional.condition c.in-Conditional.consequent c.in-Conditional.alternative,
      weight-Conditional (Box.with_value c.in-Conditional.condition c.replace-node-in-Conditional.new.dest) c.in-Conditional.consequent c.in-Conditional.alternative,
      ap node_weight c.as_mut-in-Conditional.ensures.value,
      ap node_weight c.replace-node-in-Conditional.ensures.value,
      ap node_weight c.replace-node-in-Conditional.ensures.after,
    )
