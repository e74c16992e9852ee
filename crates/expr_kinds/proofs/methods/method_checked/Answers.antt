use Rattle.expr_tree.specs.Term.{method, postfix}
use Rattle.expr_kinds.proofs.Judged.{if-ok}
use Rattle.expr_kinds.proofs.methods.method_checked.Goals as goal

pub returns-in-Some-clause-ok : goal.returns-in-Some-clause-ok
returns-in-Some-clause-ok c = if-ok c.method_given.result _ _ (λ d h s t ts ho each. h c.args.name.now s t ts c.in-Some.ensures ho each) c.method_given.ensures.ok

pub returns-in-None-clause-ok : goal.returns-in-None-clause-ok
returns-in-None-clause-ok c = λ s t ts ho each. c.unknown.ensures.tree s (postfix (method c.args.name.now ts) t)
