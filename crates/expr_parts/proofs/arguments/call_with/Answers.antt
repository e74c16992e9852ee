use Rattle.std.proofs.Common.{◌≡◌, IfOk, Some, refl, sym, ap, ◌∙◌, subst}
use Rattle.expr_tree.proofs.KeptPatterns.{all-Func}
use Rattle.expr_tree.proofs.Shapes.{term_of-Func}
use Rattle.expr_parts.specs.Kept.{IsKeptBeside}
use Rattle.expr_parts.specs.Promotion.{has_free_hash}
use Rattle.expr_parts.proofs.Parts.{same_measured}
use Rattle.expr_parts.proofs.arguments.call_with.Goals as goal

pub made-requires-clause-hash : goal.made-requires-clause-hash
made-requires-clause-hash c = c.requires.hash ∙ sym (ap has_free_hash (term_of-Func c.args.ident c.args.args (Some c.args.program)))

pub made-requires-clause-patterns : goal.made-requires-clause-patterns
made-requires-clause-patterns c = all-Func IsKeptBeside c.args.ident c.args.args (Some c.args.program) c.requires.arguments c.requires.program

pub returns : goal.returns
returns c = subst (λ m. IfOk c.made.result (λ p. p ≡ m)) (same_measured (term_of-Func c.args.ident c.args.args (Some c.args.program)) refl) c.made.ensures
