use Rattle.std.proofs.Common.{◌∙◌}
use Rattle.expr_tree.specs.TermOf.{bound_term}
use Rattle.expr_text.proofs.TreeKinds.{colon_is}
use Rattle.expr_text.proofs.postfix_parts.colon.Goals as goal

pub returns : goal.returns
returns c = c.colon_by.ensures ∙ colon_is (bound_term c.args.start.now) (bound_term c.args.end.now) _ _ _ c.is_wide.ensures c.is_there.ensures c.is_there-2.ensures
