use Rattle.std.proofs.Common.{refl, arith}
use Rattle.expr_tree.specs.TermOf.{term_of}
use Rattle.expr_explain.proofs.Tellings.{added_one}
use Rattle.expr_explain.proofs.notes.Notes.add.Goals as goal

pub returns-else-is_err-clause-told : goal.returns-else-is_err-clause-told
returns-else-is_err-clause-told c =
    added_one c.push.result c.args.self.now.parts.items c.push.new.self.items (record { node = c.args.node; number = c.in-Some.number; finding = c.args.finding }) (term_of c.args.node.now) c.args.end c.args.finding c.push.ensures.items
    (record { same = refl; under = omega arith; gives = refl })
