use Rattle.std.proofs.Common.{◌∙◌}
use Rattle.expr_functions.proofs.Table.{table_is_the_definition}
use Rattle.expr_functions.proofs.functions.Builtin.from_name.Goals as goal

pub returns : goal.returns
returns c =
    let law = c.each_name_finds_its_call.ensures in
    c.in_table.ensures ∙ table_is_the_definition law.three law.four law.five law.six law.seven law.more law.every c.args.name.now
