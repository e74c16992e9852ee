use Rattle.std.proofs.Common.{ℕ, Option, sym, subst}
use Rattle.expr_costs.specs.Measures.{UpTo, entries_inside, insertion_work, read_work}
use Rattle.expr_costs.proofs.Inside.{too_many}
use Rattle.expr_costs.proofs.measures.read_work_of.Goals as goal

pub returns-in_err-entries-clause-work : goal.returns-in_err-entries-clause-work
returns-in_err-entries-clause-work c =
    let v = c.args.value.now in
    subst (λ (r : Option ℕ). UpTo c.args.bound (read_work v) {A = ℕ} (λ n. n) r) (sym c.from_residual-in_err-entries.ensures) (
    too_many v c.args.bound (insertion_work (entries_inside v)) c.in_err-entries.ensures.entries
    )
