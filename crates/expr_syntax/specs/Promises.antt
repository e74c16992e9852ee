-- What compiling promises, said once for all calls that compile.
use Rattle.std.specs.Prelude.{◌≡◌, ℕ, IfOk, List, Result, Err}
use Rattle.std.specs.Str.{IsCharBoundary}
use Rattle.expr_tokens.specs.Grammar.{TreeProgram}
use Rattle.expr_parts.specs.Kept.{KeepPatterns}
use Rattle.expr_syntax.specs.Texts.{IsAnswerFor, IsAnswerWithin, IsCompiled, IsCompiledWithin, IsPlaced, IsTreeOf}
use Rattle.expr_tree.specs.KeptPatterns.{program_operations}
use Rattle.expr_tree.specs.declared.node.Program.{Program}
use Rattle.expr_error.specs.declared.error.Error.{Error}
use Rattle.expr_error.specs.declared.error.Error.TheVariants.{PestError}

-- what compiling a source may return
pub record CompilesText (text : List ℕ) (result : Result Program Error) : Type 0 where
  -- a program is the program of a tree of the source, and a syntax error means that there is no tree
  pub answer : IsCompiled text result
  -- if the source has a tree, only that tree's result is possible
  pub only : (t : TreeProgram) → IsTreeOf text t → IsAnswerFor t result
  -- a syntax error is at the first fault: some program begins with the tokens before it, and none goes on with the next
  pub place : IsPlaced text result
  -- a character begins at the offset, or the source ends there
  pub boundary : (place : ℕ) → result ≡ Err (PestError place) → IsCharBoundary text place
  -- each literal on the right of `matches` keeps its compiled pattern, if it is a pattern and not too big
  pub patterns : IfOk result (λ program. KeepPatterns (program_operations program))

-- what compiling a source may return if its tree is bounded in height
pub record CompilesTextWithin (text : List ℕ) (height : ℕ) (result : Result Program Error) : Type 0 where
  -- a program is the program of a tree within the bound. A syntax error means that there is no tree, whatever the bound
  -- is.
  pub answer : IsCompiledWithin text height result
  pub only : (t : TreeProgram) → IsTreeOf text t → IsAnswerWithin t height result
  pub place : IsPlaced text result
  pub boundary : (place : ℕ) → result ≡ Err (PestError place) → IsCharBoundary text place
  pub patterns : IfOk result (λ program. KeepPatterns (program_operations program))
