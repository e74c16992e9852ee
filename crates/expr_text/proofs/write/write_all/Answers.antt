use Rattle.std.proofs.Common.{◌≡◌, true, false, string_bytes}
use Rattle.expr_text.specs.Parts.{text_of_part, part_stands}
use Rattle.expr_text.proofs.Written.{remains_after, falls_after, refused_after}
use Rattle.expr_text.proofs.write.write_all.Goals as goal

pub loop-part-preserved : goal.loop-part-preserved
loop-part-preserved c =
    let done : c.in_ok-is_written.is_written ≡ true = cc in
    remains_after (string_bytes c.loop-part.out) c.loop-part.pending.items c.pop.new.self.items c.in-Some.part c.in-Some.ensures.items c.in_ok-is_written.is_written (string_bytes c.write_part.new.out) c.write_part.new.pending.items (text_of_part c.args.part) (part_stands c.args.part) c.in_ok-is_written.ensures done c.loop-part.invariant

pub loop-part-smaller : goal.loop-part-smaller
loop-part-smaller c =
    let done : c.in_ok-is_written.is_written ≡ true = cc in
    falls_after (string_bytes c.loop-part.out) c.loop-part.pending.items c.pop.new.self.items c.in-Some.part c.in-Some.ensures.items c.in_ok-is_written.is_written (string_bytes c.write_part.new.out) c.write_part.new.pending.items (text_of_part c.args.part) (part_stands c.args.part) c.in_ok-is_written.ensures done

pub returns-then-not-is_written : goal.returns-then-not-is_written
returns-then-not-is_written c =
    let undone : c.in_ok-is_written.is_written ≡ false = cc in
    refused_after (string_bytes c.loop-part.out) c.loop-part.pending.items c.pop.new.self.items c.in-Some.part c.in-Some.ensures.items c.in_ok-is_written.is_written (string_bytes c.write_part.new.out) c.write_part.new.pending.items (text_of_part c.args.part) (part_stands c.args.part) c.in_ok-is_written.ensures undone c.loop-part.invariant
