use Rattle.std.proofs.Common.{Ok, ap, subst}
use Rattle.expr_limits.specs.declared.outcome.Outcome.{Outcome}
use Rattle.expr_meaning.specs.World.{World}
use Rattle.expr_error.specs.ErrorKind.{error_kind}
use Rattle.expr_acts.specs.Here.{here}
use Rattle.expr_tree.specs.TermOf.{program_term}
use Rattle.expr_tree.specs.declared.node.Program.{Program}
use Rattle.expr_value.specs.declared.value.Value.{Value}
use Rattle.expr_syntax.specs.CompiledLimited.{IsCompiledLimited}
use Rattle.expr.specs.Limited.{EndsText}
use Rattle.expr_limits.specs.declared.outcome.Outcome.TheVariants.{Stopped}
use Rattle.expr.proofs.Ending.{memory_ends, passed_ends, run_boundary, run_place, stopped_ends, text_answers, text_ends, text_refused}
use Rattle.expr_syntax.proofs.Passed.{boundary_kept, place_kept}
use Rattle.expr_eval.proofs.Faults.{memory_boundary, memory_place}
use Rattle.expr.proofs.limited.answer_text.Goals as goal

pub returns-in_err-compiled : goal.returns-in_err-compiled
returns-in_err-compiled g c =
    let world : World = here g.H.Functions.host g.P.ContextProvider.context c.args.world.now in
    let text = c.args.code.now in
    let limits = c.args.limits.now in
    let e = c.in_err-compiled.field-0.0 in
    let r = c.from_residual.result in
    let passed = c.from_residual.ensures.1 in
    text_refused world text limits e r passed (passed_ends world text limits e c.in_err-compiled.ensures.answer r passed)
    (λ own. place_kept (Outcome Program) (Outcome Value) text e c.in_err-compiled.ensures.place r passed)
    (λ own. boundary_kept (Outcome Program) (Outcome Value) text e c.in_err-compiled.ensures.boundary r passed)

pub returns-in_err-code-in-Answered : goal.returns-in_err-code-in-Answered
returns-in_err-code-in-Answered g c =
    let world : World = here g.H.Functions.host g.P.ContextProvider.context c.args.world.now in
    let text = c.args.code.now in
    let limits = c.args.limits.now in
    let e = c.in_err-code-in-Answered.field-0.0 in
    let wanting = ap error_kind c.in_err-code-in-Answered.ensures.refused in
    let r = c.from_residual-in_err-code-in-Answered.result in
    let passed = c.from_residual-in_err-code-in-Answered.ensures.1 in
    text_refused world text limits e r passed (memory_ends world text limits e wanting r passed) (λ own. memory_place (Outcome Value) text e wanting r passed) (
    λ own. memory_boundary (Outcome Value) text e wanting r passed
    )

pub returns-in_ok-code-in-Answered : goal.returns-in_ok-code-in-Answered
returns-in_ok-code-in-Answered g c =
    let world : World = here g.H.Functions.host g.P.ContextProvider.context c.args.world.now in
    let text = c.args.code.now in
    let limits = c.args.limits.now in
    let b = program_term c.in-Answered.program in
    let read = subst (λ o. IsCompiledLimited text limits (Ok o)) c.in-Answered.is c.in_ok-compiled.ensures.answer in
    let code = c.in_ok-code-in-Answered.ensures.code in
    let r = c.execute_limited_with.result in
    let ran = c.execute_limited_with.ensures.code.outcome in
    let ends : EndsText world text limits r = text_ends world text limits b _ read.0 read.1 code r ran in
    record {
      outcome = ends;
      answer = text_answers world text limits r ends;
      depth = c.execute_limited_with.ensures.code.depth;
      place = run_place world text limits b _ read.0 read.1 code r ran;
      boundary = run_boundary world text limits b _ read.0 read.1 code r ran;
    }

pub returns-in-Stopped : goal.returns-in-Stopped
returns-in-Stopped g c =
    let world : World = here g.H.Functions.host g.P.ContextProvider.context c.args.world.now in
    let text = c.args.code.now in
    let limits = c.args.limits.now in
    let limit = c.in-Stopped.limit in
    let ends : EndsText world text limits (Ok (Stopped limit)) =
    stopped_ends world text limits limit (subst (λ o. IsCompiledLimited text limits (Ok o)) c.in-Stopped.is c.in_ok-compiled.ensures.answer) in
    record { outcome = ends; answer = tt; depth = tt; place = λ own. tt; boundary = λ own place is. absurd (cc is) }
