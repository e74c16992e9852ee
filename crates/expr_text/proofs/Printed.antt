-- The text of a program that has one is a text of that program.
use Rattle.std.proofs.Common.{◌≡◌, true, refl, sym}
use Rattle.expr_tree.specs.Term.{Block}
use Rattle.expr_tokens.specs.Grammar.{program_tokens}
use Rattle.expr_syntax.specs.Texts.{IsProgramOf}
use Rattle.expr_text.specs.Layout.{program_text}
use Rattle.expr_text.specs.Texts.{block_has_text}
use Rattle.expr_text.specs.Trees.{printed_tree}
use Rattle.expr_text.proofs.Fitting.{printed_fits}
use Rattle.expr_text.proofs.Laid.{laid_reads}
use Rattle.expr_text.proofs.Same.{printed_same}
use Rattle.expr_text.proofs.Writing.{printed_written, written_fits}

pub printed_program : (b : Block) → block_has_text b ≡ true → IsProgramOf (program_text b) b
printed_program b h =
    let w = printed_written b h in
    record {
      tree = printed_tree b;
      is_tree = record { tokens = program_tokens (printed_tree b); reads = laid_reads (printed_tree b) w; spells = refl; fits = printed_fits b };
      literals = written_fits (program_tokens (printed_tree b)) w;
      same = sym (printed_same b h);
    }
