use Rattle.std.proofs.Common.{option_map, sym, ap, ◌∙◌}
use Rattle.expr_schema.specs.KindView.{entry_view}
use Rattle.expr_schema.specs.declared.kind.Fields.{out-Fields}
use Rattle.expr_schema.proofs.Standing.{find-entries}
use Rattle.expr_schema.proofs.kind.Fields.get.Goals as goal

pub returns : goal.returns
returns c = ap (option_map entry_view) c.get.ensures ∙ sym (find-entries c.args.name.now (out-Fields c.args.self.now).named)
