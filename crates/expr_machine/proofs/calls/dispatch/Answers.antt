use Rattle.std.proofs.Common.{◌∙◌, sym}
use Rattle.std.proofs.lemmas.Result.{err_from_is_err_and}
use Rattle.std.specs.Prelude.{is_some}
use Rattle.expr_error.specs.ErrorKind.{error_kind}
use Rattle.expr_machine.proofs.Beginnings.{added_asks_not, begins_run, fails_to_begin, holds_if, unnamed_asks_not}
use Rattle.expr_machine.proofs.calls.dispatch.Goals as goal

pub returns-then-added-clause-items : goal.returns-then-added-clause-items
returns-then-added-clause-items g c =
    let host = g.H.Functions.host c.args.world.now.host.now in
    holds_if host c.args.name.now c.args.args (is_some c.args.lent) c.dispatch_known.result (added_asks_not host c.args.name.now c.args.args (sym c.requires.added ∙ c.if-added.true)) c.dispatch_known.ensures.begun

pub returns-in-None-clause-items : goal.returns-in-None-clause-items
returns-in-None-clause-items g c =
    let host = g.H.Functions.host c.args.world.now.host.now in
    holds_if host c.args.name.now c.args.args (is_some c.args.lent) c.dispatch_known-in-None.result (unnamed_asks_not host c.args.name.now c.args.args (sym c.from_name.ensures ∙ c.in-None.is)) c.dispatch_known-in-None.ensures.begun

pub returns-in_ok-begun-in-Some-clause-begun : goal.returns-in_ok-begun-in-Some-clause-begun
returns-in_ok-begun-in-Some-clause-begun g c =
    let host = g.H.Functions.host c.args.world.now.host.now in
    begins_run host c.args.name.now c.args.args c.in_ok-begun-in-Some.begun c.in-Some.call (sym c.requires.added ∙ c.if-added.false) (sym c.from_name.ensures ∙ c.in-Some.is) c.in_ok-begun-in-Some.ensures.begun

pub returns-in_err-begun-in-Some-clause-refused : goal.returns-in_err-begun-in-Some-clause-refused
returns-in_err-begun-in-Some-clause-refused g c =
    let host = g.H.Functions.host c.args.world.now.host.now in
    let p = err_from_is_err_and c.from_residual.result c.from_residual.ensures.1 in
    rw (p.1, p.2)
    (λ other. fails_to_begin host c.args.name.now c.args.args (error_kind c.in_err-begun-in-Some.field-0.0) c.in-Some.call (sym c.requires.added ∙ c.if-added.false) (sym c.from_name.ensures ∙ c.in-Some.is) (c.in_err-begun-in-Some.ensures.refused other))
