use Rattle.std.proofs.Common.{◌≢◌, Err, inl, inr}
use Rattle.expr_error.specs.ErrorKind.{error_kind, memory}
use Rattle.expr_acts.specs.Here.{here}
use Rattle.expr_meaning.proofs.Independent.{AllowsBlock-keeps}
use Rattle.expr_meaning.specs.Allows.{AllowsBlock}
use Rattle.expr_meaning.specs.World.{World}
use Rattle.expr_tree.specs.TermOf.{program_term}
use Rattle.expr_value.proofs.Answered.{Returns-passed, Returns-under}
use Rattle.expr_syntax.specs.Refused.{IsRefused}
use Rattle.expr_eval.specs.Texts.{MayAnswer, MayAnswerWhereAgreed}
use Rattle.expr_eval.proofs.Faults.{boundary_of_run, boundary_passed, place_of_run, place_passed, refused_by_compile}
use Rattle.expr_eval.proofs.ReadsBack.{back_from_run, back_refused}
use Rattle.expr_eval.proofs.text.evaluate_text.Goals as goal

pub returns-in_err-program : goal.returns-in_err-program
returns-in_err-program g c =
    let world : World = here g.H.Functions.host g.P.ContextProvider.context c.args.world.now in
    let text = c.args.code.now in
    let e = c.in_err-program.field-0.0 in
    let r = c.from_residual.result in
    let passed = c.from_residual.ensures.1 in
    let refused : error_kind e ≢ memory → IsRefused text (Err (error_kind e)) = refused_by_compile text e c.in_err-program.ensures.answer in
    record {
      answer = Returns-passed r e (MayAnswer text world) passed (λ m. inr (refused m));
      independent = Returns-passed r e (MayAnswerWhereAgreed text world) passed (λ m other h. inr (refused m));
      place = λ own. place_passed text e c.in_err-program.ensures.place r passed;
      boundary = λ own. boundary_passed text e c.in_err-program.ensures.boundary r passed;
      reads_back = λ v h same. back_refused text v h same e c.in_err-program.ensures.only r passed;
    }

pub returns : goal.returns
returns g c =
    let world : World = here g.H.Functions.host g.P.ContextProvider.context c.args.world.now in
    let text = c.args.code.now in
    let program = c.in_ok-program.program in
    let b = program_term program in
    let of = c.in_ok-program.ensures.answer in
    let r = c.run_with.result in
    let gives = c.run_with.ensures.answer in
    record {
      answer = Returns-under r (AllowsBlock world b) (MayAnswer text world) (λ a p. inl (b, of, p)) gives;
      independent = Returns-under r (AllowsBlock world b) (MayAnswerWhereAgreed text world) (λ a p other h. inl (b, of, AllowsBlock-keeps world.host world.context other b (h b of) a p)) gives;
      place = place_of_run text world b of r gives;
      boundary = boundary_of_run text world b of r gives;
      reads_back = λ v h same. back_from_run text v h same world program c.in_ok-program.ensures.only r gives;
    }
