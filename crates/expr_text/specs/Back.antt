-- What compiling a program's text gives: that program, or out of memory.
use Rattle.std.specs.Prelude.{◌≡◌, Result, Ok, Err}
use Rattle.expr_error.specs.declared.error.Error.{Error}
use Rattle.expr_error.specs.declared.error.Error.TheVariants.{PestError, ParseError, ExprError, RegexError, MemoryError}
use Rattle.expr_tree.specs.Term.{Block}
use Rattle.expr_tree.specs.TermOf.{program_term}
use Rattle.expr_tree.specs.declared.node.Program.{Program}

abbrev pub GivesBack : Block → Result Program Error → Type 0
GivesBack b (Ok p) = program_term p ≡ b
GivesBack b (Err (PestError place)) = ⊥
GivesBack b (Err (ParseError message)) = ⊥
GivesBack b (Err (ExprError message)) = ⊥
GivesBack b (Err (RegexError error)) = ⊥
GivesBack b (Err MemoryError) = Unit {0}
