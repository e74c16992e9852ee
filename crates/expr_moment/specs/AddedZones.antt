-- Adding a time zone.
use Rattle.jiff.specs.Types.{TimeZone as Rules}
use Rattle.std.specs.Prelude.{◌≡◌, ℕ, List, Option, Some, bytes_eq, if◌then◌else◌}
use Rattle.expr_datetime.specs.Times.{rules_of, zone_name}
use Rattle.expr_datetime.specs.declared.zone.TimezoneValue.{TimezoneValue}

-- The name now has a time zone of that name with these rules. Other names have what they had.
pub record IsZoneAdded (name : List ℕ) (rules : Rules) (old new : List ℕ → Option TimezoneValue) : Type 0 where
  pub zone : TimezoneValue
  pub has_name : zone_name zone ≡ name
  pub has_rules : rules_of zone ≡ rules
  pub stands : (key : List ℕ) → new key ≡ (if bytes_eq name key then Some zone else old key)
