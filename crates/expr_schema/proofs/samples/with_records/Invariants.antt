use Rattle.std.proofs.Common.{ℕ, List, take}
use Rattle.expr_schema.specs.Kinds.{Each, Lets}
use Rattle.expr_schema.specs.KindView.{fields_view}
use Rattle.expr_schema.specs.Scopes.{AllStand}
use Rattle.expr_schema.proofs.samples.with_records.Given as goal

abbrev pub invariant-loop-record : goal.invariant-loop-record
invariant-loop-record l =
    ((name : List ℕ) → Lets (fields_view l.initial.fields) (fields_view l.fields) name) × Each (λ r. AllStand (fields_view l.fields) r) (take l.record-index l.records)
