use Rattle.std.proofs.Common.{◌<◌, IfSome, arith, sym, subst, ap, ◌∙◌}
use Rattle.expr_tree.specs.Weight.{weight, block_weight, predicate_weight}
use Rattle.expr_tree.specs.TermOf.{term_of, predicate_term, program_term}
use Rattle.expr_tree.specs.declared.node.Program.{Program}
use Rattle.expr_tree.proofs.Weights.{node_weight, named_weight, program-parts, weight-Map, weight-Range, weight-Func, weight-Unary, weight-Operation, weight-Postfix, weight-Conditional}
use Rattle.expr_tree.proofs.node.Node.shorten.Goals as goal

pub returns-in-Map : goal.returns-in-Map
returns-in-Map c = subst (λ n. IfSome c.shortened_pairs.result (λ m. weight (term_of m) < n)) (sym (ap node_weight c.in-Map.is ∙ weight-Map c.in-Map.pairs)) c.shortened_pairs.ensures

pub returns-in-Range : goal.returns-in-Range
returns-in-Range c =
    omega (
      arith,
      ap node_weight c.in-Range.is ∙ weight-Range c.in-Range.first c.in-Range.last,
      ap node_weight c.into_inner.ensures,
      ap node_weight c.into_inner-in-Range.ensures,
      c.hang.ensures,
    )

pub returns-in-Some : goal.returns-in-Some
returns-in-Some c =
    omega (
      arith,
      ap node_weight c.in-Func.is ∙ weight-Func c.in-Func.ident c.in-Func.args c.in-Func.predicate,
      ap (λ p. predicate_weight (predicate_term p)) c.in-Some.is,
      program-parts c.in-Some.program.value,
      ap (λ (p : Program). named_weight p.lines.items) c.into_inner-lines.ensures,
      ap (λ (p : Program). node_weight p.expr) c.into_inner-lines.ensures,
      c.hung_lines.ensures,
      c.hung_items.ensures,
    )

pub returns-in-Unary : goal.returns-in-Unary
returns-in-Unary c =
    omega (
      arith,
      ap node_weight c.in-Unary.is ∙ weight-Unary c.in-Unary.operator c.in-Unary.node,
      ap node_weight c.into_inner-in-Unary.ensures,
    )

pub returns-in-Operation : goal.returns-in-Operation
returns-in-Operation c =
    omega (
      arith,
      ap node_weight c.in-Operation.is ∙ weight-Operation c.in-Operation.operator c.in-Operation.left c.in-Operation.right c.in-Operation.compiled_regex,
      ap node_weight c.into_inner-in-Operation.ensures,
      ap node_weight c.into_inner-in-Operation-2.ensures,
      c.hang-in-Operation.ensures,
    )

pub returns-in-Postfix : goal.returns-in-Postfix
returns-in-Postfix c =
    omega (
      arith,
      ap node_weight c.in-Postfix.is ∙ weight-Postfix c.in-Postfix.operator c.in-Postfix.node,
      ap node_weight c.into_inner-in-Postfix.ensures,
      c.hung_postfix.ensures,
    )

pub returns-in-Conditional : goal.returns-in-Conditional
returns-in-Conditional c =
    omega (
      arith,
      ap node_weight c.in-Conditional.is ∙ weight-Conditional c.in-Conditional.condition c.in-Conditional.consequent c.in-Conditional.alternative,
      ap (λ p. block_weight (program_term p)) c.into_inner-in-Conditional.ensures,
      ap node_weight c.into_inner-in-Conditional-2.ensures,
      ap (λ p. block_weight (program_term p)) c.into_inner-in-Conditional-3.ensures,
      c.hung_program-chain.ensures,
      c.hung_program.ensures,
    )
