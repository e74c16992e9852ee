use Rattle.std.proofs.Common.{◌<◌, ◌≤◌, arith}
use Rattle.expr_parts.specs.Kept.{KeepPatterns}
use Rattle.expr_parts.specs.Parts.{BlockWithHeight}
use Rattle.expr_tree.specs.KeptPatterns.{program_operations}
use Rattle.expr_tree.specs.declared.node.Program.{Program}
use Rattle.expr_syntax.proofs.Compiled.{IsAnswerWithin-err, IsAnswerWithin-high, IsAnswerWithin-ok, IsCompiledWithin-err, IsCompiledWithin-high, IsCompiledWithin-ok, program_boundary, refusal_boundary, refusal_placed}
use Rattle.expr_syntax.proofs.Passed.{boundary_kept, gives_nothing, place_kept}
use Rattle.expr_syntax.proofs.text.compile_within.Goals as goal

pub returns-in_err-program : goal.returns-in_err-program
returns-in_err-program c =
    let text = c.args.code.now in
    let height = c.args.height in
    let e = c.in_err-program.field-0.0 in
    let r = c.from_residual.result in
    let passed = c.from_residual.ensures.1 in
    record {
      answer = IsCompiledWithin-err text height e c.in_err-program.ensures.answer r passed;
      only = λ t h. IsAnswerWithin-err t height e (c.in_err-program.ensures.only t h) r passed;
      place = place_kept BlockWithHeight Program text e c.in_err-program.ensures.place r passed;
      boundary = boundary_kept BlockWithHeight Program text e c.in_err-program.ensures.boundary r passed;
      patterns = gives_nothing (λ (program : Program). KeepPatterns (program_operations program)) e r passed;
    }

pub returns-then-tree_height-height : goal.returns-then-tree_height-height
returns-then-tree_height-height c =
    let text = c.args.code.now in
    let height = c.args.height in
    let m = c.in_ok-program.program in
    let e = c.refusal.result in
    let high : height < m.height = omega (arith, c.if-tree_height-height.true, c.height-tree_height.ensures) in
    record {
      answer = IsCompiledWithin-high height m high text c.in_ok-program.ensures.answer e c.refusal.ensures;
      only = λ t h. IsAnswerWithin-high height m high t (c.in_ok-program.ensures.only t h) e c.refusal.ensures;
      place = refusal_placed text e c.refusal.ensures;
      boundary = refusal_boundary text e c.refusal.ensures;
      patterns = tt;
    }

pub returns : goal.returns
returns c =
    let text = c.args.code.now in
    let height = c.args.height in
    let m = c.in_ok-program.program in
    let p = c.into_program.result in
    let is = c.into_program.ensures.block in
    let low : m.height ≤ height = omega (arith, c.if-tree_height-height.false, c.height-tree_height.ensures) in
    record {
      answer = IsCompiledWithin-ok m p is height low text c.in_ok-program.ensures.answer;
      only = λ t h. IsAnswerWithin-ok m p is height low t (c.in_ok-program.ensures.only t h);
      place = tt;
      boundary = program_boundary text p;
      patterns = c.into_program.ensures.patterns;
    }
