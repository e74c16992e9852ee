-- What was paid for.
use Rattle.std.specs.Prelude.{◌≤◌, ℕ, IsTrue}
use Rattle.expr_costs.specs.declared.cost.Paid.{Paid}

-- it pays for so much work, and for so much room; where nothing is counted, it pays for all
abbrev pub Covers : Paid → (work room : ℕ) → Type 0
Covers paid work room = IsTrue paid.is_counted → (work ≤ paid.steps) × (room ≤ paid.room)
