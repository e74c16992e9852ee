use Rattle.std.proofs.Common.{sym}
use Rattle.expr_schema.specs.Kinds.{any}
use Rattle.expr_schema.specs.KindView.{kind_view}
use Rattle.expr_schema.specs.declared.kind.Kind.TheVariants as memory
use Rattle.expr_schema.proofs.Shapes.{kind_view-Any}
use Rattle.expr_kinds.proofs.Judged.{fits-same, unknown-block, unknown-typed}
use Rattle.expr_kinds.proofs.checked.Checked.unknown.Goals as goal

pub returns-clause-tree : goal.returns-clause-tree
returns-clause-tree c = λ s t e covers. (any, unknown-typed e covers s t, fits-same any (kind_view memory.Any) (sym kind_view-Any))

pub returns-clause-block : goal.returns-clause-block
returns-clause-block c = λ s b e covers. (any, unknown-block e covers s b, fits-same any (kind_view memory.Any) (sym kind_view-Any))

pub returns-clause-kind : goal.returns-clause-kind
returns-clause-kind c = kind_view-Any
