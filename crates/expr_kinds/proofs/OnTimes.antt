-- Each overload of the built-ins on time holds.
use Rattle.std.proofs.Common.{◌≡◌, ℕ, List, [], ◌∷◌, Option, Some, None, Ok, Err, refl, sym, subst, inl, inr}
use Rattle.jiff.specs.Types.{DateTime}
use Rattle.expr_arguments.specs.Arguments.{answer_on, one_text, without_arguments}
use Rattle.expr_arguments.specs.Times.{timezone_of}
use Rattle.expr_datetime.specs.declared.moment.DateTimeValue.{DateTimeValue}
use Rattle.expr_datetime.specs.declared.moment.MomentZone.{MomentZone}
use Rattle.expr_datetime.specs.declared.zone.TimezoneValue.{TimezoneValue}
use Rattle.expr_error.specs.ErrorKind.{evaluation}
use Rattle.expr_functions.specs.declared.functions.TimeCall.{TimeCall}
use Rattle.expr_functions.specs.declared.functions.TimeCall.TheVariants as time
use Rattle.expr_layout.specs.declared.found.KnownFields.{KnownFields}
use Rattle.expr_moment.specs.Zones.{at_civil, moment_or_refusal}
use Rattle.expr_time.specs.Calls.{TimeCallMayReturn}
use Rattle.expr_time.specs.Civil.{AllowsDate, Dates, DatesLayout, DatesNamed, DatesText, DatesThree, DatesTwo, MomentMayReturn, MomentMayReturnIf, answer_in, place_read}
use Rattle.expr_time.specs.LengthMethods.{OfText}
use Rattle.expr_time.specs.Zones.{now_answer, timezone_answer, zone_named}
use Rattle.expr_value.specs.Answers.{Answer}
use Rattle.expr_value.specs.Values.{string_of}
use Rattle.expr_value.specs.declared.value.Value as value
use Rattle.expr_value.specs.declared.value.Value.{Value}
use Rattle.expr_schema.specs.Kinds.{duration, datetime, timezone, Each, failing}
use Rattle.expr_kinds.specs.Effects.{ResultIs, Yields}
use Rattle.expr_kinds.specs.Overloads.{on_times}
use Rattle.expr_kinds.proofs.Held.{Of, OverloadHolds}

-- a DateTime, or an error
abbrev pub Moments : (Answer → Type 0) → Type 0
Moments allowed = Yields failing (Of datetime) allowed

pub moment-or_error : (o : Option DateTimeValue) → ResultIs failing (Of datetime) (moment_or_refusal o)
moment-or_error None = tt
moment-or_error (Some t) = (t, refl)

an-error : Moments (λ a. Err evaluation ≡ a)
an-error a is = subst (λ r. ResultIs failing (Of datetime) r) is tt

local : (place : Option MomentZone) (dt : DateTime) → ResultIs failing (Of datetime) (answer_in place dt)
local None dt = tt
local (Some p) dt = moment-or_error (at_civil p dt)

known-moments : (f : KnownFields) (zone : TimezoneValue) → Moments (MomentMayReturn f zone)
known-moments f zone a (inl (dt, civil, is)) = subst (λ r. ResultIs failing (Of datetime) r) is (local (place_read f.offset zone) dt)
known-moments f zone a (inr (none, is)) = an-error a is

read-moments : (o : Option KnownFields) (zone : TimezoneValue) → Moments (MomentMayReturnIf o zone)
read-moments None zone = an-error
read-moments (Some f) zone = known-moments f zone

text-moments : (zone : TimezoneValue) (o : Option (List ℕ)) → Moments (DatesText zone o)
text-moments zone None = an-error
text-moments zone (Some text) = read-moments _ zone

layout-moments : (zone : TimezoneValue) (o p : Option (List ℕ)) → Moments (DatesLayout zone o p)
layout-moments zone None p a is = an-error a is
layout-moments zone (Some text) None a is = an-error a is
layout-moments zone (Some text) (Some layout) a (tokens, is, reads) = read-moments _ zone a reads

module _ (zones : List ℕ → Option TimezoneValue) where
  zone-moments : (o : Option TimezoneValue) (t l : Option (List ℕ)) → Moments (Dates o (λ zone. DatesLayout zone t l))
  zone-moments None t l = an-error
  zone-moments (Some zone) t l = layout-moments zone t l

  named-moments : (t l n : Option (List ℕ)) → Moments (DatesNamed zones t l n)
  named-moments t l None = an-error
  named-moments t l (Some name) = zone-moments (zone_named zones name) t l

  two-moments : (o : Option TimezoneValue) (a b : Value) → Moments (DatesTwo o a b)
  two-moments None a b = layout-moments _ (string_of a) (string_of b)
  two-moments (Some zone) a b = text-moments zone (string_of b)

  three-moments : (o : Option TimezoneValue) (a b c : Value) → Moments (DatesThree zones o a b c)
  three-moments None a b c = named-moments (string_of a) (string_of b) (string_of c)
  three-moments (Some zone) a b c = layout-moments zone (string_of b) (string_of c)

  dates : (vs : List Value) → Moments (AllowsDate zones vs)
  dates [] = an-error
  dates (a ∷ []) = text-moments _ (string_of a)
  dates (a ∷ b ∷ []) = two-moments (timezone_of a) a b
  dates (a ∷ b ∷ c ∷ []) = three-moments (timezone_of a) a b c
  dates (a ∷ b ∷ c ∷ d ∷ more) = an-error

  named-zone : (o : Option TimezoneValue) → ResultIs failing (Of timezone) (answer_on o (λ zone. Ok (value.Timezone zone)))
  named-zone None = tt
  named-zone (Some zone) = (zone, refl)

  zone-of_text : (o : Option (List ℕ)) → ResultIs failing (Of timezone) (answer_on o (λ name. answer_on (zone_named zones name) (λ zone. Ok (value.Timezone zone))))
  zone-of_text None = tt
  zone-of_text (Some name) = named-zone (zone_named zones name)

  zones-named : (vs : List Value) → Yields failing (Of timezone) (λ a. a ≡ timezone_answer zones vs)
  zones-named vs a is = subst (λ r. ResultIs failing (Of timezone) r) (sym is) (zone-of_text (one_text vs))

-- durations
lengths : (o : Option (List ℕ)) → Yields failing (Of duration) (OfText o)
lengths None a is = subst (λ r. ResultIs failing (Of duration) r) (sym is) tt
lengths (Some s) (Ok v) (n, fits, spells, is) = (n, is)
lengths (Some s) (Err f) p = tt

-- the moment that is set
alone-moment : (vs : List Value) (t : DateTimeValue) → ResultIs failing (Of datetime) (without_arguments vs (value.DateTime t))
alone-moment [] t = (t, refl)
alone-moment (v ∷ vs) t = tt

moment-now : (o : Option DateTimeValue) (vs : List Value) → ResultIs failing (Of datetime) (now_answer o vs)
moment-now None vs = tt
moment-now (Some t) vs = alone-moment vs _

pub times-hold : (zones : List ℕ → Option TimezoneValue) (moment : Option DateTimeValue) (c : TimeCall) → Each (OverloadHolds (TimeCallMayReturn zones moment c)) (on_times c)
times-hold zones moment time.Date = (λ known vs h is. dates zones vs, (λ known vs h is. dates zones vs, (λ known vs h is. dates zones vs, tt)))
times-hold zones moment time.Duration = (λ known vs h is. lengths (one_text vs), (λ known vs h is. lengths (one_text vs), tt))
times-hold zones moment time.Now = (λ known vs h is a q. subst (λ r. ResultIs failing (Of datetime) r) (sym q) (moment-now moment vs), tt)
times-hold zones moment time.Timezone = (λ known vs h is. zones-named zones vs, (λ known vs h is. zones-named zones vs, tt))
