use Rattle.std.proofs.Common.{ℕ, List, IsUtf8, inl, subst}
use Rattle.std.specs.Result.{IfErr}
use Rattle.std.proofs.lemmas.Result.{IfErr-weaker}
use Rattle.expr_engine.specs.Adding.{IsName}
use Rattle.expr_engine.specs.Reasons.{RefusesName}
use Rattle.expr_exchange.specs.declared.misuse.Misuse.TheVariants.{NotUtf8}
use Rattle.expr_exchange.proofs.Refused.{passed_so}
use Rattle.expr_engine.proofs.Refusing.{name_misused, name_refused}
use Rattle.expr_engine.proofs.adding.add_name.Goals as goal

pub returns-in_err-knows_environment-clause-why : goal.returns-in_err-knows_environment-clause-why
returns-in_err-knows_environment-clause-why c =
    let name = c.args.call.now.name.now in
    passed_so c.from_residual.result c.in_err-knows_environment.field-0.0 (RefusesName (IsUtf8 name × IsName name)) c.from_residual.ensures.1 (inl c.in_err-knows_environment.ensures.why)

pub returns-in_err-name-clause-why : goal.returns-in_err-name-clause-why
returns-in_err-name-clause-why c =
    let name = c.args.call.now.name.now in
    let e = c.in_err-name.field-0.0 in
    passed_so c.from_residual-in_err-name.result e (RefusesName (IsUtf8 name × IsName name)) c.from_residual-in_err-name.ensures.1
    (name_misused (IsUtf8 name) (IsName name) e NotUtf8 c.in_err-name.ensures.refused.0 c.in_err-name.ensures.refused.1)

pub returns-clause-why : goal.returns-clause-why
returns-clause-why c =
    let name = c.args.call.now.name.now in
    let why = subst (λ (text : List ℕ). IfErr c.add_name.result (RefusesName (IsName text))) c.in_ok-name.ensures.ok c.add_name.ensures.why in
    IfErr-weaker c.add_name.result (RefusesName (IsName name)) (RefusesName (IsUtf8 name × IsName name)) (λ e refuses. name_refused (IsUtf8 name) (IsName name) e refuses) why
