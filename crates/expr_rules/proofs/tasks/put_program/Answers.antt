use Rattle.std.proofs.Common.{◌≡◌, ◌++◌, map, sym, ap, ◌∙◌}
use Rattle.expr_text.specs.Steps.{block_steps}
use Rattle.expr_tree.specs.Term.{block_with}
use Rattle.expr_tree.specs.TermOf.{term_of, program_term, line_term}
use Rattle.expr_tree.proofs.Programs.{term_of-parts}
use Rattle.expr_rules.specs.Needs.{asked_by_block}
use Rattle.expr_rules.specs.Tasks.{hidden}
use Rattle.expr_rules.proofs.Tasking.{one_put}
use Rattle.expr_rules.proofs.tasks.put_program.Goals as goal

pub returns : goal.returns
returns c =
    let p = c.args.program.now in
    let whole : block_with (map line_term c.as_slice-lines.result.now) (term_of p.expr) ≡ program_term p = ap (λ ls. block_with (map line_term ls) (term_of p.expr)) c.as_slice-lines.ensures.value ∙ sym (term_of-parts p) in
    one_put _ _ _ _ c.in_ok-push.ensures.items (λ a after scope. ap (λ b. hidden a scope (asked_by_block a b) ++ after scope) whole) _ (ap block_steps whole)
