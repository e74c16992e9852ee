-- A program that was compiled, within limits or without, has a text.
use Rattle.std.proofs.Common.{◌≡◌, ℕ, true, nat_lt, List, Option, None, Some, Result, Ok, IsTrue, subst}
use Rattle.std.specs.List.{list_all}
use Rattle.expr_engine.specs.Limiting.{IsCompiledBy, IsProgramBy}
use Rattle.expr_error.specs.declared.error.Error.{Error}
use Rattle.expr_limits.specs.declared.limits.Limits.{Limits}
use Rattle.expr_limits.specs.declared.outcome.Outcome.{Outcome}
use Rattle.expr_limits.specs.declared.outcome.Outcome.TheVariants.{Answered}
use Rattle.expr_syntax.specs.Texts.{IsProgramOf}
use Rattle.expr_text.proofs.Sources.{source_has_text}
use Rattle.expr_text.specs.Texts.{block_has_text}
use Rattle.expr_tree.specs.Term.{Block}
use Rattle.expr_tree.specs.TermOf.{program_term}
use Rattle.expr_tree.specs.declared.node.Program.{Program}

-- whatever the limits are, it is a program of its expression
program_of : (limits : Option Limits) (text : List ℕ) (b : Block) → IsProgramBy limits text b → IsProgramOf text b
program_of None text b p = p
program_of (Some limits) text b p = record { tree = p.0.tree; is_tree = p.0.is_tree; literals = p.0.within.0; same = p.0.same }

pub compiled_has_text : (limits : Option Limits) (text : List ℕ) (p : Program) (r : Result (Outcome Program) Error) → list_all (λ b. nat_lt b 256) text ≡ true → IsCompiledBy limits text program_term r → r ≡ Ok (Answered p) → IsTrue (block_has_text (program_term p))
compiled_has_text limits text p r bytes compiled is =
    source_has_text text (program_term p) bytes (program_of limits text (program_term p) (subst (IsCompiledBy limits text program_term) is compiled))
