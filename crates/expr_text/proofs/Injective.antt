-- Two programs of one text are one.
use Rattle.std.proofs.Common.{◌≡◌, ℕ, List, sym, ap, ◌∙◌, subst}
use Rattle.expr_tokens.proofs.Lexing.{one_reading}
use Rattle.expr_tree.specs.Term.{Block}
use Rattle.expr_tokens.specs.Grammar.{Spells}
use Rattle.expr_tokens.proofs.Complete.{one_tree}
use Rattle.expr_parts.specs.Programs.{program_of}
use Rattle.expr_syntax.specs.Texts.{IsProgramOf}

pub one_program : (text : List ℕ) (b c : Block) → IsProgramOf text b → IsProgramOf text c → b ≡ c
one_program text b c h k =
    let same = one_tree h.tree k.tree h.is_tree.tokens h.is_tree.spells h.is_tree.fits
    (subst (Spells k.tree) (sym (one_reading text h.is_tree.tokens k.is_tree.tokens h.is_tree.reads k.is_tree.reads)) k.is_tree.spells) k.is_tree.fits in
    h.same ∙ ap program_of same ∙ sym k.same
