-- What the program may return for its arguments.
use Rattle.std.specs.Prelude.{◌≡◌, ℕ, List, [], ◌∷◌, Result, Ok}
use Rattle.expr.specs.Contexts.{NamedValues, context_of}
use Rattle.expr.specs.Host.{no_host}
use Rattle.expr.specs.World.{world_of}
use Rattle.expr.specs.Texts.{MayAnswerWithin}
use Rattle.expr_value.specs.Answers.{Answer, Then}
use Rattle.expr_error.specs.ErrorKind.{ErrorKind}
use Rattle.expr_value.specs.Names.{put}
use Rattle.expr_value.specs.declared.value.Value.{Value}
use Rattle.expr_program.specs.Words.{bound_name, code_of}

-- what an expression may return with these values of names; its tree may be no higher than 500
abbrev pub MayAnswerUnder : NamedValues → List ℕ → Answer → Type 0
MayAnswerUnder pairs code answer = MayAnswerWithin 500 code (world_of no_host (context_of pairs)) answer

-- the names that bindings set, from left to right, each by itself, after those already set; or the first
-- error
abbrev pub MayBind : List (List ℕ) → NamedValues → Result NamedValues ErrorKind → Type 0
MayBind [] pairs bound = bound ≡ Ok pairs
MayBind (word ∷ words) pairs bound = Then (MayAnswerUnder [] (code_of word)) (λ v. MayBind words (put (bound_name word) v pairs)) bound

-- what code may return with the names that bindings set
abbrev pub MayServe : List ℕ → List (List ℕ) → Answer → Type 0
MayServe code bindings answer = Then (MayBind bindings []) (λ pairs. MayAnswerUnder pairs code) answer

-- a value that the arguments CODE [NAME=CODE].. may print
abbrev pub MayPrint : List (List ℕ) → Value → Type 0
MayPrint [] v = ⊥
MayPrint (code ∷ bindings) v = MayServe code bindings (Ok v)
