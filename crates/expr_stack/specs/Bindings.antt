-- Slots that are added after others.
use Rattle.std.specs.Prelude.{◌≡◌, ◌<◌, ◌≤◌, ℕ, List, [], ◌∷◌, ◌++◌, length, slice_get, take}
use Rattle.expr_code.specs.Held.{Held}
use Rattle.expr_stack.specs.Cells.{AreWithin}
use Rattle.expr_stack.specs.Held.{slot_helds}
use Rattle.expr_stack.specs.Memories.{IsBoundAt, MemoryView, Stays}

-- there is one more slot, which holds this, and perhaps one more value in the kept list; the others stay
pub record Puts (h : Held) (old new : MemoryView) : Type 0 where
  pub helds : slot_helds new ≡ slot_helds old ++ h ∷ []
  pub slots : take (length old.slots) new.slots ≡ old.slots
  pub kept : take (length old.kept) new.kept ≡ old.kept
  pub bound : IsBoundAt (length old.kept) (slice_get new.slots (length old.slots))
  pub within : AreWithin (length new.kept) new.slots

-- the slots were cut to this number, and slots that hold these were added, of which the first is an item's
pub record BindsItem (slot : ℕ) (old new : MemoryView) (hs : List Held) : Type 0 where
  pub helds : slot_helds new ≡ take slot (slot_helds old) ++ hs
  pub stays : Stays slot (length old.kept) old new
  pub item : IsBoundAt (length old.kept) (slice_get new.slots slot)
  pub slots : slot < length new.slots
  pub places : length old.kept ≤ length new.kept
  pub within : AreWithin (length new.kept) new.slots
