use Rattle.std.proofs.Common.{◌≡◌, ℤ, ◌+ℤ◌, refl, inl, inr}
use Rattle.std.specs.Prelude.{◌↔◌, ◌⊎◌, IsSome, IfSome}
use Rattle.std.proofs.lemmas.Bool.{false≢true}
use Rattle.jiff.specs.Words.{IsTimestampNanos}
use Rattle.expr_datetime.specs.ShiftedMoments.{if_in_time, in_time}
use Rattle.expr_datetime.specs.Times.{instant, moment_zone}
use Rattle.expr_datetime.specs.declared.moment.MomentZone.{MomentZone}
use Rattle.expr_value.proofs.laws.moments_are_moved.Goals as goal

there : (n : ℤ) (place : MomentZone) (d : IsTimestampNanos n ⊎ (¬ (IsTimestampNanos n))) → IsSome (if_in_time n d place) ↔ IsTimestampNanos n
there n place (inl h) = (λ some. h, λ within. refl)
there n place (inr beyond) = (λ some. absurd (false≢true some), λ within. absurd (beyond within))

moved_to : (n : ℤ) (place : MomentZone) (d : IsTimestampNanos n ⊎ (¬ (IsTimestampNanos n))) → IfSome (if_in_time n d place) (λ u. (instant u ≡ n) × (moment_zone u ≡ place))
moved_to n place (inl h) = (refl, refl)
moved_to n place (inr beyond) = tt

pub returns-clause-range : goal.returns-clause-range
returns-clause-range c = λ t n. there (instant t +ℤ n) (moment_zone t) (in_time (instant t +ℤ n))

pub returns-clause-value : goal.returns-clause-value
returns-clause-value c = λ t n. moved_to (instant t +ℤ n) (moment_zone t) (in_time (instant t +ℤ n))
