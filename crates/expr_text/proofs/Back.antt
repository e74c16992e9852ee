-- Compiling the text of a program gives that program.
use Rattle.std.proofs.Common.{◌≡◌, ℕ, ◌≤◌, true, Result, Ok, Err, sym, ◌∙◌, subst, List, arith}
use Rattle.std.specs.List.{AllByRecursion}
use Rattle.expr_error.specs.declared.error.Error.{Error}
use Rattle.expr_error.specs.declared.error.Error.TheVariants.{PestError, ParseError, ExprError, RegexError, MemoryError}
use Rattle.expr_tree.specs.Term.{Block}
use Rattle.expr_tree.specs.declared.node.Program.{Program}
use Rattle.expr_tokens.specs.Grammar.{TreeProgram, LiteralsFit, IntegerFits, program_tokens}
use Rattle.expr_tokens.specs.Height.{program_height}
use Rattle.expr_parts.specs.Programs.{program_of}
use Rattle.expr_syntax.specs.Promises.{CompilesText}
use Rattle.expr_syntax.specs.Texts.{IsAnswerFor, IsProgramWithin}
use Rattle.expr_text.specs.Back.{GivesBack}
use Rattle.expr_text.specs.Layout.{program_text}
use Rattle.expr_text.specs.Texts.{block_has_text}
use Rattle.expr_text.specs.Trees.{printed_tree}
use Rattle.expr_text.proofs.Complete.{Written}
use Rattle.expr_text.proofs.Heights.{printed_low}
use Rattle.expr_text.proofs.Printed.{printed_program}
use Rattle.expr_text.proofs.Sources.{are_bytes, read_written}

only_this : (b : Block) (t : TreeProgram) → LiteralsFit t → b ≡ program_of t → (r : Result Program Error) → IsAnswerFor t r → GivesBack b r
only_this b t fit same (Ok p) h = h.0 ∙ sym same
only_this b t fit same (Err (PestError place)) h = h
only_this b t fit same (Err (ParseError message)) h = h fit
only_this b t fit same (Err (ExprError message)) h = h
only_this b t fit same (Err (RegexError error)) h = h
only_this b t fit same (Err MemoryError) h = tt

pub compiled_back : (b : Block) (r : Result Program Error) → block_has_text b ≡ true → CompilesText (program_text b) r → GivesBack b r
compiled_back b r h c = let p = printed_program b h in only_this b p.tree p.literals p.same r (c.only p.tree p.is_tree)

-- what passed a bound on height passes it again
pub bound_passed : (text : List ℕ) (height : ℕ) (b : Block) → are_bytes text ≡ true → IsProgramWithin text height b → program_height (printed_tree b) ≤ height
bound_passed text height b g h =
    let written : Written (program_tokens h.tree) = subst Written (sym h.is_tree.spells) (read_written text h.is_tree.tokens g h.is_tree.reads (subst (λ ts. AllByRecursion IntegerFits ts) h.is_tree.spells h.within.0)) in
    let low = printed_low h.tree h.is_tree.fits written in
    let limit = h.within.1 in
    subst (λ (x : Block). program_height (printed_tree x) ≤ height) (sym h.same) (omega (arith, low, limit))
