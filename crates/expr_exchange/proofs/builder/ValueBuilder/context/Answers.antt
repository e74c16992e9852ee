use Rattle.std.proofs.Common.{IsSome, ◌∙◌, subst, sym}
use Rattle.std.proofs.lemmas.Bool.{false≢true}
use Rattle.expr_value.specs.Values.{map_of}
use Rattle.expr_exchange.specs.Builder.{NoContext, values_of}
use Rattle.expr_exchange.specs.declared.host_error.HostError.{HostError}
use Rattle.expr_exchange.specs.declared.host_error.HostError.TheVariants.{Language}
use Rattle.expr_exchange.proofs.Ends.{none_ends, one_last}
use Rattle.expr_exchange.proofs.Refused.{passed_so}
use Rattle.expr_exchange.proofs.builder.ValueBuilder.context.Goals as goal

pub returns-in_err-value-clause-given : goal.returns-in_err-value-clause-given
returns-in_err-value-clause-given c = λ m. absurd (none_ends m.front m.last (sym m.stood ∙ c.in_err-value.ensures.err.1))

pub returns-in_err-try_from-clause-given : goal.returns-in_err-try_from-clause-given
returns-in_err-try_from-clause-given c = λ m.
    absurd (false≢true (c.in_err-try_from.ensures.refused (subst (λ v. IsSome (map_of v)) (one_last m.front _ m.last c.in_ok-value.value (sym m.stood ∙ c.in_ok-value.ensures.ok)) m.is)))

pub returns-in_err-value-clause-refused : goal.returns-in_err-value-clause-refused
returns-in_err-value-clause-refused c =
    let values = values_of c.args.self.now in
    passed_so c.from_residual.result c.in_err-value.field-0.0 (NoContext values) c.from_residual.ensures.1
    (subst (λ (e : HostError). NoContext values e) (sym c.in_err-value.ensures.err.0) c.in_err-value.ensures.err.1)

pub returns-in_err-try_from-clause-refused : goal.returns-in_err-try_from-clause-refused
returns-in_err-try_from-clause-refused c =
    passed_so c.from_residual-in_err-try_from.result (Language c.in_err-try_from.field-0.0) (NoContext (values_of c.args.self.now)) c.from_residual-in_err-try_from.ensures.1
    (λ other. (
      c.in_err-try_from.ensures.kind other,
      λ m. false≢true (c.in_err-try_from.ensures.refused (subst (λ v. IsSome (map_of v)) (one_last m.front _ m.last c.in_ok-value.value (sym m.stood ∙ c.in_ok-value.ensures.ok)) m.is)),
    ))
