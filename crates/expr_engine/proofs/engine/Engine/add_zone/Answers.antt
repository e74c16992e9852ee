use Rattle.std.proofs.Common.{◌≡◌, Option, None, Some, IfSome, ap, arith, is_some, subst, true, w64}
use Rattle.std.proofs.lemmas.Int.{to_z-of_z}
use Rattle.std.proofs.lemmas.Grind.{common_steps}
use Rattle.expr_engine.specs.Adding.{BecomesByRule, BecomesFixed}
use Rattle.expr_engine.specs.Effects.{Changes}
use Rattle.expr_exchange.specs.HandleMap.{thing_at}
use Rattle.expr_stops.specs.Stops.{is_named}
use Rattle.expr_engine.proofs.Unchanged.{additions_by_exchange, changes_by_exchange, on_err}
use Rattle.expr_engine.proofs.engine.Engine.add_zone.Goals as goal

pub returns-in_err-done-clause-err : goal.returns-in_err-done-clause-err
returns-in_err-done-clause-err c = on_err c.from_residual.result
    (additions_by_exchange c.args.self.now.environments c.swap.new.self c.swap-kept.new.self c.args.environment c.new-host.result c.swap.new.thing c.add_zone-done.new.self c.swap.ensures.found c.swap-kept.ensures.found c.swap.ensures.given c.in_err-done.ensures.err c.in_err-done.ensures.moment (λ name. ap (λ n. is_named n name) c.in_err-done.ensures.names) c.in_err-done.ensures.versions)

pub returns-clause-fixed : goal.returns-clause-fixed
returns-clause-fixed c = λ none.
    let known : is_some (thing_at c.args.self.now.environments c.args.environment) ≡ true = grind (arith, common_steps) in
    changes_by_exchange (BecomesFixed c.args.name.now c.args.seconds) c.args.self.now.environments c.swap.new.self c.swap-kept.new.self c.args.environment c.new-host.result c.swap.new.thing c.add_zone-done.new.self
    c.swap.ensures.found c.swap-kept.ensures.found known c.swap.ensures.given
    (subst (λ n. BecomesFixed c.args.name.now n c.swap.new.thing c.add_zone-done.new.self) (to_z-of_z w64 c.args.seconds c.ranges.seconds) (c.in_ok-done.ensures.fixed none))

-- what holds of a thing that there is gives what else does
if_some : {X : Type 0} (o : Option X) (P Q : X → Type 0) → ((x : X) → P x → Q x) → IfSome o P → IfSome o Q
if_some None P Q f p = tt
if_some (Some x) P Q f p = f x p

pub returns-clause-by_rule : goal.returns-clause-by_rule
returns-clause-by_rule c =
    let known : is_some (thing_at c.args.self.now.environments c.args.environment) ≡ true = grind (arith, common_steps) in
    if_some c.args.rule (λ rule. BecomesByRule c.args.name.now rule.now c.swap.new.thing c.add_zone-done.new.self)
    (λ rule. Changes (BecomesByRule c.args.name.now rule.now) c.args.self.now.environments c.swap-kept.new.self c.args.environment)
    (λ rule becomes. changes_by_exchange (BecomesByRule c.args.name.now rule.now) c.args.self.now.environments c.swap.new.self c.swap-kept.new.self c.args.environment c.new-host.result c.swap.new.thing c.add_zone-done.new.self
    c.swap.ensures.found c.swap-kept.ensures.found known c.swap.ensures.given becomes) c.in_ok-done.ensures.by_rule
