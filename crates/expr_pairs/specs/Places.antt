-- Indices of keys, by 64-bit hashes.
use Rattle.std.specs.Prelude.{◌≡◌, ℕ, ◌+◌, ◌%◌, ◌^◌, ◌<◌, ◌⊎◌, Bool, true, List, length, slice_get, Option, None, Some, IsSome, fold}
use Rattle.std.specs.Ordering.{nat_cmp}
use Rattle.std.specs.BTreeMap.{BTreeMap, get}
use Rattle.std.specs.Hash.DefaultHasher as sip
use Rattle.expr_pairs.specs.declared.places.Spot.{Spot}
use Rattle.expr_pairs.specs.declared.places.Spot.TheVariants.{At, Free, Crowded}

-- the hash of what a key writes into a hasher
unfoldable pub key_hash : List (List ℕ) → ℕ
key_hash input = sip.finish (fold sip.write sip.initial input)

-- number of slots of a key
abbrev pub slots : ℕ
slots = 16

-- the slots of a hash: the hash and the numbers after it
unfoldable pub slot_of_hash : ℕ → ℕ → ℕ
slot_of_hash hash rank = (hash + rank) % 2 ^ 64

abbrev Places : Type 0
Places = BTreeMap ℕ ℕ

-- the index in a slot
abbrev pub place_at : Places → ℕ → Option ℕ
place_at places slot = get nat_cmp places slot

-- the first n slots of a hash are taken
abbrev pub AreTaken : Places → ℕ → ℕ → Type 0
AreTaken places hash n = (rank : ℕ) → rank < n → IsSome (place_at places (slot_of_hash hash rank))

-- an index is in a slot of a hash, and the slots before it are taken, or all slots are taken
pub record IsNoted (places : Places) (hash place : ℕ) : Type 0 where
  pub rank : ℕ
  pub before : AreTaken places hash rank
  pub here : (rank ≡ slots) ⊎ (place_at places (slot_of_hash hash rank) ≡ Some place)

-- each key has a slot, and each slot that is taken has the index of a key
pub record AreNoted {K : Type 0} (hash : K → ℕ) (keys : List K) (places : Places) : Type 0 where
  pub each : (place : ℕ) (k : K) → slice_get keys place ≡ Some k → IsNoted places (hash k) place
  pub within : (slot place : ℕ) → place_at places slot ≡ Some place → place < length keys

-- the same of keys by what each writes into a hasher
abbrev pub AreNotedKeys : {K : Type 0} → (K → List (List ℕ)) → List K → Places → Type 0
AreNotedKeys hash_input keys places = AreNoted (λ k. key_hash (hash_input k)) keys places

-- a key that equals the given one is at an index
abbrev pub IsKeyAt : {K : Type 0} → (K → K → Bool) → List K → K → ℕ → Type 0
IsKeyAt {K} eq keys key place = (k : K) × (slice_get keys place ≡ Some k) × (eq key k ≡ true)

-- a slot is the first free one of a hash
pub record IsUnderFree (places : Places) (hash slot : ℕ) : Type 0 where
  pub rank : ℕ
  pub before : AreTaken places hash rank
  pub is : slot ≡ slot_of_hash hash rank
  pub free : place_at places slot ≡ None

-- what a spot says, where `found` is the index of the key that is looked up
abbrev pub IsSpot : Option ℕ → ℕ → Places → Spot → Type 0
IsSpot found hash places (At place) = found ≡ Some place
IsSpot found hash places (Free slot) = (found ≡ None) × IsUnderFree places hash slot
IsSpot found hash places Crowded = (found ≡ None) × AreTaken places hash slots
