use Rattle.std.proofs.Common.{Ok, ap, subst, sym}
use Rattle.std.proofs.lemmas.Grind.{merely}
use Rattle.expr_code.specs.Codes.{IsCode}
use Rattle.expr_tree.specs.TermOf.{program_term}
use Rattle.expr_text.proofs.ListExpanding.{all_bytes}
use Rattle.expr_engine.proofs.Compiled.{compiled_has_text}
use Rattle.expr_engine.proofs.rule.Rule.compile.Goals as goal

pub invariant_of-result : goal.invariant_of-result
invariant_of-result c = record {
  lowered = merely (subst (IsCode (program_term c.in-Answered.program)) (sym c.in_ok-code-in-Answered.ensures.blocks) c.in_ok-lower-in-Answered.ensures.code);
  worded = compiled_has_text c.args.limits c.args.text.now c.in-Answered.program (Ok c.in_ok-program.field-0) (all_bytes c.args.text.now c.type_inv.text) c.in_ok-program.ensures.answer (ap (λ o. Ok o) c.in-Answered.is);
}
