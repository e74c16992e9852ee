-- What a run counts, and how a part of a run ends.
use Rattle.std.specs.Prelude.{◌≡◌, ℕ, List, [], ◌∷◌, Result, Ok, Err}
use Rattle.expr_value.specs.Answers.{Answer}
use Rattle.expr_error.specs.ErrorKind.{ErrorKind}
use Rattle.expr_value.specs.declared.value.Value.{Value}
use Rattle.expr_limits.specs.declared.limit.Limit.{Limit}

-- something is charged: the new tally, or the limit that it exceeds
abbrev pub Charge : Type 0 → Type 1
Charge T = T → Result T Limit → Type 0

-- how runs are counted: a tally, and the charge for each thing that counts
pub record Counting : Type 1 where
  pub Tally : Type 0
  -- what is noted of a tally, to go back to it
  pub Mark : Type 0
  -- a block of this many instructions is entered
  pub enters : ℕ → Charge Tally
  -- an instruction is about to do this much work, and there must be room for what it builds
  pub works : (work room : ℕ) → Charge Tally
  -- an instruction made this value
  pub makes : Value → Charge Tally
  -- this value is kept in another value
  pub keeps : Value → Charge Tally
  pub mark : Tally → Mark
  -- the tally once everything is gone that was made since the mark
  pub freed : Mark → Tally → Tally

-- a part of a run returns a value, with a tally, or it fails, or it stops at a limit
pub data Ending (T : Type 0) : Type 0 where
  gives : (value : Value) (now : T) → Ending T
  refuses : (fault : ErrorKind) → Ending T
  stops : (limit : Limit) → Ending T

-- it ends with this result
abbrev pub ending_of : {T : Type 0} → Answer → T → Ending T
ending_of (Ok v) now = gives v now
ending_of (Err e) now = refuses e

-- what follows a charge. If that exceeds a limit, the run stops.
abbrev pub ThenIfCharged : {T : Type 0} → Result T Limit → (T → Ending T → Type 0) → Ending T → Type 0
ThenIfCharged (Ok now) next end = next now end
ThenIfCharged (Err limit) next end = end ≡ stops limit

-- first something is charged
abbrev pub ChargeThen : {T : Type 0} → Charge T → T → (T → Ending T → Type 0) → Ending T → Type 0
ChargeThen {T} charge now next end = (r : Result T Limit) × charge now r × ThenIfCharged r next end

-- what follows a part that returned a value. Any other ending is the ending of the whole.
abbrev pub ThenIfGives : {T : Type 0} → Ending T → (Value → T → Ending T → Type 0) → Ending T → Type 0
ThenIfGives (gives v now) next end = next v now end
ThenIfGives (refuses e) next end = end ≡ refuses e
ThenIfGives (stops limit) next end = end ≡ stops limit

-- first one part, and if it returns a value then the next
abbrev pub EndingThen : {T : Type 0} → (Ending T → Type 0) → (Value → T → Ending T → Type 0) → Ending T → Type 0
EndingThen {T} first next end = (x : Ending T) × first x × ThenIfGives x next end

-- one of these results, without a further charge
abbrev pub EndsWithAnswer : {T : Type 0} → (Answer → Type 0) → T → Ending T → Type 0
EndsWithAnswer allowed now end = (answer : Answer) × allowed answer × (end ≡ ending_of answer now)

-- first these values are kept, one after the other
abbrev pub KeepAllThen : (counting : Counting) → List Value → counting.Tally → (counting.Tally → Ending counting.Tally → Type 0) → Ending counting.Tally → Type 0
KeepAllThen counting [] now next end = next now end
KeepAllThen counting (v ∷ vs) now next end = ChargeThen (counting.keeps v) now (λ kept. KeepAllThen counting vs kept next) end

-- what follows from keeping values, one after the other
abbrev pub ThenIfKept : {T : Type 0} → Result T Limit → (T → Type 0) → Result T Limit → Type 0
ThenIfKept (Ok now) next r = next now
ThenIfKept (Err limit) next r = r ≡ Err limit

abbrev pub KeepsAll : (counting : Counting) → List Value → counting.Tally → Result counting.Tally Limit → Type 0
KeepsAll counting [] now r = r ≡ Ok now
KeepsAll counting (v ∷ vs) now r = (x : Result counting.Tally Limit) × counting.keeps v now x × ThenIfKept x (λ u. KeepsAll counting vs u r) r
