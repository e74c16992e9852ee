use Rattle.expr_kinds.proofs.Judged.{some-of}
use Rattle.expr_kinds.proofs.Tabled.{row-found, unknown-builtin}
use Rattle.expr_kinds.proofs.builtins.builtin_checked.Goals as goal

pub returns-in-Some-clause-ok : goal.returns-in-Some-clause-ok
returns-in-Some-clause-ok c =
    let told = some-of c.in_ok-found.found _ c.in-Some.checked c.in-Some.is c.in_ok-found.ensures.ok in
    row-found c.args.arguments.now c.args.call c.in-Some.checked c.call_rows-row-items.result.now c.loop-row.row-index _ c.loop-row-test.true c.call_rows-row-items.ensures told

pub returns-clause-ok : goal.returns-clause-ok
returns-clause-ok c = unknown-builtin c.args.arguments.now c.unknown.result c.unknown.ensures.kind c.unknown.ensures.effect c.args.call
