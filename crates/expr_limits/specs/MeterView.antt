-- The contracts of calls that count.
use Rattle.std.specs.Prelude.{◌≡◌, Option, Some, Result, Ok, Err}
use Rattle.expr_limits.specs.Counting.{Charge}
use Rattle.expr_limits.specs.Rooms.{Room}
use Rattle.expr_limits.specs.declared.limit.Limit.{Limit}

-- a meter: the room that is left, and the limit that was exceeded, if one was
pub record MeterView : Type 0 where
  pub room : Room
  pub stopped : Option Limit

-- the charge was made, or the call returns the limit that it exceeds, which is recorded
abbrev pub Charges : {A E : Type 0} → (E → Limit) → Result A E → Charge Room → MeterView → MeterView → Type 0
Charges limit (Ok done) charge old new = (new.stopped ≡ old.stopped) × charge old.room (Ok new.room)
Charges limit (Err e) charge old new = (new.stopped ≡ Some (limit e)) × charge old.room (Err (limit e))
