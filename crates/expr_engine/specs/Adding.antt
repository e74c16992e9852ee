-- How an environment changes.
use Rattle.std.specs.Prelude.{◌≡◌, ℕ, ℤ, Bool, List, [], ◌∷◌, None, Some, bytes_eq, false, if◌then◌else◌, option_map, true}
use Rattle.jiff.specs.Placed.{IsPosixZone, fixed_zone}
use Rattle.jiff.specs.Types.{Offset, TimeZone as Rules}
use Rattle.expr_moment.specs.AddedZones.{IsZoneAdded}
use Rattle.expr_tokens.specs.Reading.{Reads}
use Rattle.expr_tokens.specs.declared.token.Token.{Token}
use Rattle.expr_engine.specs.Runs.{adds_versions, named_at, names_in, zone_added}
use Rattle.expr_engine.specs.declared.additions.Additions.{Additions}
use Rattle.expr_datetime.specs.Times.{instant}

-- The string is a name of the language: it reads as a single word that isn't reserved.
abbrev pub IsName : List ℕ → Type 0
IsName text = Reads text (Token.Word text ∷ [])

-- whether a token is this word, and not a reserved one
abbrev pub is_this_word : Token → List ℕ → Bool
is_this_word (Token.Word word) text = bytes_eq word text
is_this_word token text = false

-- whether the tokens are this word alone
abbrev pub is_word_alone : List Token → List ℕ → Bool
is_word_alone [] text = false
is_word_alone (token ∷ []) text = is_this_word token text
is_word_alone (token ∷ (next ∷ rest)) text = false

-- There are no zones, no current time, no functions that the host runs itself, and no functions on versions.
pub record AddsNothing (added : Additions) : Type 0 where
  pub zones : (name : List ℕ) → zone_added added name ≡ None
  pub moment : added.moment ≡ None
  pub names : (name : List ℕ) → named_at added name ≡ false
  pub versions : adds_versions added ≡ false

-- There is now a zone of this name and these rules, and everything else is as before.
pub record GainsZone (name : List ℕ) (rules : Rules) (was is : Additions) : Type 0 where
  pub zone : IsZoneAdded name rules (zone_added was) (zone_added is)
  pub moment : is.moment ≡ was.moment
  pub names : names_in is ≡ names_in was
  pub versions : adds_versions is ≡ adds_versions was

-- There is now a zone of this name whose clock is this many seconds ahead of UTC.
pub record BecomesFixed (name : List ℕ) (ahead : ℤ) (was is : Additions) : Type 0 where
  pub offset : Offset
  pub seconds : offset.seconds ≡ ahead
  pub zone : GainsZone name (fixed_zone offset) was is

-- There is now a zone of this name by this rule.
pub record BecomesByRule (name rule : List ℕ) (was is : Additions) : Type 0 where
  pub rules : Rules
  pub are : IsPosixZone rule rules
  pub zone : GainsZone name rules was is

-- The current time is this, and everything else is as before.
pub record BecomesNow (nanoseconds : ℤ) (was is : Additions) : Type 0 where
  pub moment : option_map instant is.moment ≡ Some nanoseconds
  pub zones : (name : List ℕ) → zone_added is name ≡ zone_added was name
  pub names : names_in is ≡ names_in was
  pub versions : adds_versions is ≡ adds_versions was

-- The host now runs functions of this name itself, and everything else is as before.
pub record GainsName (name : List ℕ) (was is : Additions) : Type 0 where
  pub names : (key : List ℕ) → named_at is key ≡ (if bytes_eq name key then true else named_at was key)
  pub zones : (key : List ℕ) → zone_added is key ≡ zone_added was key
  pub moment : is.moment ≡ was.moment
  pub versions : adds_versions is ≡ adds_versions was

-- The functions on versions are added, and everything else is as before.
pub record GainsVersions (was is : Additions) : Type 0 where
  pub versions : adds_versions is ≡ true
  pub zones : (key : List ℕ) → zone_added is key ≡ zone_added was key
  pub moment : is.moment ≡ was.moment
  pub names : names_in is ≡ names_in was
