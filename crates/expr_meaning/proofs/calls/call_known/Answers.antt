use Rattle.std.proofs.Common.{Ok, Err, false, sym, subst}
use Rattle.expr_meaning.specs.Allows.{AllowsCall}
use Rattle.expr_meaning.specs.Dispatch.{DispatchesTo}
use Rattle.expr_meaning.specs.Host.{Host}
use Rattle.expr_predicates.specs.Runs.{AnswersItself}
use Rattle.expr_error.specs.ErrorKind.{error_kind}
use Rattle.expr_value.proofs.Answered.{Returns-passed}
use Rattle.expr_meaning.proofs.Dispatching.{AllowsCall-answered, AllowsCall-refused, AllowsCall-run}
use Rattle.expr_meaning.proofs.calls.call_known.Goals as goal

pub returns-in_err-answer : goal.returns-in_err-answer
returns-in_err-answer g c =
    let host : Host = g.H.Functions.host c.args.host.now in
    let key = c.args.ident.now in
    let vs = c.args.args in
    let e = c.in_err-answer.field-0.0 in
    Returns-passed c.from_residual.result e (AllowsCall host key vs false AnswersItself) c.from_residual.ensures.1 (
    λ m. AllowsCall-refused host key vs false AnswersItself (error_kind e) (c.in_err-answer.ensures.refused m)
    )

pub returns-in_err-complete-in-Asks : goal.returns-in_err-complete-in-Asks
returns-in_err-complete-in-Asks g c =
    let host : Host = g.H.Functions.host c.args.host.now in
    let key = c.args.ident.now in
    let vs = c.args.args in
    let e = c.in_err-complete-in-Asks.field-0.0 in
    let begins = subst (λ b. DispatchesTo host key vs false b) c.in-Asks.is c.in_ok-answer.ensures.begun in
    Returns-passed c.from_residual-in_err-complete-in-Asks.result e (AllowsCall host key vs false AnswersItself) c.from_residual-in_err-complete-in-Asks.ensures.1 (
    λ m. AllowsCall-run host key vs false AnswersItself c.in-Asks.run' begins (Err (error_kind e)) (λ t s. c.in_err-complete-in-Asks.ensures t s m)
    )

pub returns-in_ok-complete-in-Asks : goal.returns-in_ok-complete-in-Asks
returns-in_ok-complete-in-Asks g c =
    let host : Host = g.H.Functions.host c.args.host.now in
    let key = c.args.ident.now in
    let vs = c.args.args in
    let v = c.in_ok-complete-in-Asks.field-0 in
    let begins = subst (λ b. DispatchesTo host key vs false b) c.in-Asks.is c.in_ok-answer.ensures.begun in
    subst (λ w. AllowsCall host key vs false AnswersItself (Ok w)) (sym c.from_owned-in-Asks.ensures) (
    AllowsCall-run host key vs false AnswersItself c.in-Asks.run' begins (Ok v) c.in_ok-complete-in-Asks.ensures
    )

pub returns-in-Answered : goal.returns-in-Answered
returns-in-Answered g c =
    let host : Host = g.H.Functions.host c.args.host.now in
    let key = c.args.ident.now in
    let vs = c.args.args in
    let begins = subst (λ b. DispatchesTo host key vs false b) c.in-Answered.is c.in_ok-answer.ensures.begun in
    subst (λ w. AllowsCall host key vs false AnswersItself (Ok w)) (sym c.from_owned.ensures) (AllowsCall-answered host key vs false AnswersItself c.in-Answered.answer begins)
