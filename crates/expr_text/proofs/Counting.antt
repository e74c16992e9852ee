-- Steps: those of lists, programs and maps of literals, and how high levels are.
use Rattle.std.proofs.Common.{◌≡◌, ℕ, ◌+◌, ◌≤◌, List, [], ◌∷◌, refl, sym, ap, ◌∙◌, arith}
use Rattle.std.specs.Map.{keys_of, values_of}
use Rattle.expr_tokens.specs.Grammar.{infix_level, prefix_level}
use Rattle.expr_tokens.specs.declared.operator_sign.InfixSign.{InfixSign}
use Rattle.expr_tokens.specs.declared.operator_sign.InfixSign.TheVariants as infixed
use Rattle.expr_tokens.specs.declared.operator_sign.PrefixSign.{PrefixSign}
use Rattle.expr_tokens.specs.declared.operator_sign.PrefixSign.TheVariants as prefix
use Rattle.expr_tree.specs.Term.{Term, LineTerms, block_with, term_pairs}
use Rattle.expr_text.specs.Steps.{term_steps, pairs_steps, block_steps, lines_steps}
use Rattle.expr_text.specs.Trees.{infix_catch}

pub pairs-steps : (ps : LineTerms) → pairs_steps (term_pairs ps) ≡ lines_steps ps
pairs-steps [] = refl
pairs-steps (p ∷ ps) = ap (λ n. 10 + (term_steps p.1 + n)) (pairs-steps ps)

pub block-steps : (ls : LineTerms) (t : Term) → block_steps (block_with ls t) ≡ 5 + (lines_steps ls + term_steps t)
block-steps [] t = omega arith
block-steps (l ∷ ls) t = omega (arith, block-steps ls t)

pub infix_low : (o : InfixSign) → infix_level o + infix_catch o ≤ 24
infix_low infixed.Or = omega arith
infix_low o = omega arith

pub prefix_low : (o : PrefixSign) → prefix_level o ≤ 10
prefix_low prefix.Not = omega arith
prefix_low o = omega arith
