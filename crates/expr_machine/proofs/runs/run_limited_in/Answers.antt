use Rattle.std.proofs.Common.{◌≡◌, ◌+◌, ◌-◌, ◌≤◌, List, sym, subst, ap, ◌∙◌, arith}
use Rattle.expr_limits.specs.MeterView.{MeterView}
use Rattle.expr_limits.specs.Rooms.{least_steps, limited, size_left}
use Rattle.expr_limits.specs.contracts.budget.BudgetMeter.TheImpl.{ghosts}
use Rattle.expr_machine.specs.Ended.{outcome_told}
use Rattle.expr_acts.specs.Here.{here}
use Rattle.expr_acts.specs.Texts.{text_of}
use Rattle.expr_code.specs.Instructions.{Op}
use Rattle.expr_lowering.specs.Blocks.{CodeKeeps, blocks_of}
use Rattle.expr_machine.proofs.Ended.{limited_keeps, used_within, within_limits}
use Rattle.expr_machine.specs.Promises.{CountsUse, RunsCodeWithin}
use Rattle.expr_meaning.proofs.Depths.{code_depth}
use Rattle.expr_meaning.specs.World.{World}
use Rattle.expr_machine.proofs.runs.run_limited_in.Goals as goal

pub returns-clause-code : goal.returns-clause-code
returns-clause-code g c =
    let host_of = g.H.Functions.host in
    let context_of = g.P.ContextProvider.context in
    let V = g.L.Pointer.held in
    let T = text_of g.N.Pointer.held in
    let K = g.K.Pointer.held in
    let m = c.new-machine.result in
    let world : World = here host_of context_of m.world.now in
    let blocks : List (List Op) = blocks_of V T m.code.now in
    let limits = c.args.limits.now in
    let r = c.start.result in
    let started : MeterView = ghosts.metered m.meter in
    let room : started.room ≡ limited limits.steps limits.size limits.depth = ap (λ b. (ghosts.metered b).room) c.new-machine.ensures.meter ∙ ap (λ v. v.room) c.new-budget.ensures in
    let both = within_limits world blocks (here host_of context_of c.start.new.self.world.now) (blocks_of V T c.start.new.self.code.now) _ _ limits.steps limits.size limits.depth (λ costs n k d v left. code_depth costs world blocks n k d v left) r started.room room c.start.ensures.ends in
    let ran : RunsCodeWithin world blocks (CodeKeeps V K m.code.now) limits (outcome_told r) = record {
      outcome = both.0;
      depth = both.1;
      pattern = λ never keeps. limited_keeps r (c.start.ensures.pattern never keeps);
    } in
    let here_it : RunsCodeWithin (here host_of context_of c.args.world.now) (blocks_of V T c.args.code.now) (CodeKeeps V K c.args.code.now) limits (outcome_told r) =
    subst (λ x. RunsCodeWithin (here host_of context_of x.now) (blocks_of V T c.args.code.now) (CodeKeeps V K c.args.code.now) limits (outcome_told r)) c.new-machine.ensures.world
    (subst (λ y. RunsCodeWithin world (blocks_of V T y.now) (CodeKeeps V K y.now) limits (outcome_told r)) c.new-machine.ensures.code ran) in
    subst (RunsCodeWithin (here host_of context_of c.args.world.now) (blocks_of V T c.args.code.now) (CodeKeeps V K c.args.code.now) limits) (sym c.outcome_of-outcome.ensures) here_it

pub returns-clause-used : goal.returns-clause-used
returns-clause-used g c =
    let host_of = g.H.Functions.host in
    let context_of = g.P.ContextProvider.context in
    let V = g.L.Pointer.held in
    let T = text_of g.N.Pointer.held in
    let m = c.new-machine.result in
    let world : World = here host_of context_of m.world.now in
    let blocks : List (List Op) = blocks_of V T m.code.now in
    let limits = c.args.limits.now in
    let r = c.start.result in
    let started : MeterView = ghosts.metered m.meter in
    let ended : MeterView = ghosts.metered c.start.new.self.meter in
    let room : started.room ≡ limited limits.steps limits.size limits.depth = ap (λ b. (ghosts.metered b).room) c.new-machine.ensures.meter ∙ ap (λ v. v.room) c.new-budget.ensures in
    let steps = c.saturating_sub-steps.result in
    let size = c.saturating_sub-size.result in
    let took : steps ≡ limits.steps - least_steps ended.room = c.saturating_sub-steps.ensures ∙ ap (λ n. limits.steps - n) c.steps_left.ensures in
    let held : limits.size ≤ size + size_left ended.room = omega (arith, c.saturating_sub-size.ensures, c.least_size.ensures) in
    let used : CountsUse world blocks limits (outcome_told r) steps size = record {
      steps = omega (arith, took);
      size = omega (arith, c.saturating_sub-size.ensures);
      answer = used_within world blocks (here host_of context_of c.start.new.self.world.now) (blocks_of V T c.start.new.self.code.now) _ _ limits.steps limits.size limits.depth r started.room room steps size took held c.start.ensures.ends;
    } in
    let here_it : CountsUse (here host_of context_of c.args.world.now) (blocks_of V T c.args.code.now) limits (outcome_told r) steps size =
    subst (λ x. CountsUse (here host_of context_of x.now) (blocks_of V T c.args.code.now) limits (outcome_told r) steps size) c.new-machine.ensures.world
    (subst (λ y. CountsUse world (blocks_of V T y.now) limits (outcome_told r) steps size) c.new-machine.ensures.code used) in
    subst (λ o. CountsUse (here host_of context_of c.args.world.now) (blocks_of V T c.args.code.now) limits o steps size) (sym c.outcome_of-outcome.ensures) here_it
