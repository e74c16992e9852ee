-- An error within bounds is an error within limits.
use Rattle.std.proofs.Common.{◌≡◌, ℕ, List, Result, Ok, Err, sym, subst}
use Rattle.std.specs.Result.{IsErrAnd}
use Rattle.expr_limits.specs.declared.limits.Limits.{Limits}
use Rattle.expr_limits.specs.declared.outcome.Outcome.{Outcome}
use Rattle.expr_syntax.specs.Bounds.{IsCompiledBounded}
use Rattle.expr_tree.specs.declared.node.Program.{Program}
use Rattle.expr_error.specs.declared.error.Error.{Error}
use Rattle.expr_error.specs.declared.error.Error.TheVariants.{PestError, ParseError, ExprError, RegexError, MemoryError}
use Rattle.expr_syntax.specs.CompiledLimited.{IsCompiledLimited}

-- an error within bounds is an error within limits, also if it is passed on
module _ (text : List ℕ) (limits : Limits) where
  refused_bounded : (e : Error) → IsCompiledBounded text limits.nesting limits.patterns (Err e) → IsCompiledLimited text limits (Err e)
  refused_bounded (PestError place) h = h
  refused_bounded (ParseError message) h = h
  refused_bounded (ExprError message) h = h
  refused_bounded (RegexError error) h = h
  refused_bounded MemoryError h = h

  pub passed_bounded : (e : Error) → IsCompiledBounded text limits.nesting limits.patterns (Err e) → (r : Result (Outcome Program) Error) → IsErrAnd r (λ x. x ≡ e) → IsCompiledLimited text limits r
  passed_bounded e h (Ok o) is = absurd is
  passed_bounded e h (Err x) is = subst (λ y. IsCompiledLimited text limits (Err y)) (sym is) (refused_bounded e h)
