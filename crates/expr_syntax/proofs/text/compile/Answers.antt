use Rattle.expr_parts.specs.Kept.{KeepPatterns}
use Rattle.expr_parts.specs.Parts.{BlockWithHeight}
use Rattle.expr_tree.specs.KeptPatterns.{program_operations}
use Rattle.expr_tree.specs.declared.node.Program.{Program}
use Rattle.expr_syntax.proofs.Compiled.{IsAnswerFor-err, IsAnswerFor-ok, IsCompiled-err, IsCompiled-ok, program_boundary}
use Rattle.expr_syntax.proofs.Passed.{boundary_kept, gives_nothing, place_kept}
use Rattle.expr_syntax.proofs.text.compile.Goals as goal

pub returns-in_err-program : goal.returns-in_err-program
returns-in_err-program c =
    let text = c.args.code.now in
    let e = c.in_err-program.field-0.0 in
    let r = c.from_residual.result in
    let passed = c.from_residual.ensures.1 in
    record {
      answer = IsCompiled-err text e c.in_err-program.ensures.answer r passed;
      only = λ t h. IsAnswerFor-err t e (c.in_err-program.ensures.only t h) r passed;
      place = place_kept BlockWithHeight Program text e c.in_err-program.ensures.place r passed;
      boundary = boundary_kept BlockWithHeight Program text e c.in_err-program.ensures.boundary r passed;
      patterns = gives_nothing (λ (program : Program). KeepPatterns (program_operations program)) e r passed;
    }

pub returns : goal.returns
returns c =
    let text = c.args.code.now in
    let m = c.in_ok-program.program in
    let p = c.into_program.result in
    let is = c.into_program.ensures.block in
    record {
      answer = IsCompiled-ok m p is text c.in_ok-program.ensures.answer;
      only = λ t h. IsAnswerFor-ok m p is t (c.in_ok-program.ensures.only t h);
      place = tt;
      boundary = program_boundary text p;
      patterns = c.into_program.ensures.patterns;
    }
