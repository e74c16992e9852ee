-- Each row of the tables of methods holds.
use Rattle.std.proofs.Common.{◌≡◌, ℕ, ℤ, Bool, true, false, cond, List, [], ◌∷◌, Option, Some, None, Ok, Err, bytes_eq, refl, sym, ap, ◌∙◌, subst, inl, inr}
use Rattle.std.specs.Map.{lookup}
use Rattle.expr_arguments.specs.Arguments.{answer_on, one_duration, one_text, without_arguments}
use Rattle.expr_arguments.specs.Times.{one_moment, one_zone, three_integers, timezone_of}
use Rattle.expr_datetime.specs.ShiftedMoments.{at_instant, moment_in, moment_later}
use Rattle.expr_datetime.specs.Times.{instant, moment_zone}
use Rattle.expr_datetime.specs.declared.moment.DateTimeValue.{DateTimeValue}
use Rattle.expr_datetime.specs.declared.moment.MomentZone.TheVariants.{Named}
use Rattle.expr_datetime.specs.declared.zone.TimezoneValue.{TimezoneValue}
use Rattle.expr_error.specs.ErrorKind.{evaluation}
use Rattle.expr_layout.specs.Layouts.{Formats}
use Rattle.expr_meaning.specs.Methods.{AllowsDurationMethod, AllowsMethod, AllowsMethodLayer, AllowsMomentMethod, AllowsNameMethod}
use Rattle.expr_moment.specs.Dates.{AddsDate}
use Rattle.expr_moment.specs.Fields.{between, field_value}
use Rattle.expr_moment.specs.Zones.{at_civil, location_of, moment_or_refusal}
use Rattle.expr_moment.specs.declared.fields.DateTimeField.{DateTimeField}
use Rattle.expr_moment.specs.declared.fields.DateTimeField.TheVariants as field
use Rattle.expr_time.specs.LengthMethods.{by_step, method_answer, name_of as length_method, rounded_nanos, truncated_nanos}
use Rattle.expr_time.specs.Moments.{AddsDates, AnsweredAt, instant_rounded, instant_truncated, location_answer, moment_method, name_answer, name_method}
use Rattle.expr_time.specs.declared.length_method.DurationMethod.{DurationMethod}
use Rattle.expr_time.specs.declared.length_method.DurationMethod.TheVariants as duration_method
use Rattle.expr_time.specs.declared.moments.DateTimeMethod.{DateTimeMethod}
use Rattle.expr_time.specs.declared.moments.DateTimeMethod.TheVariants as moment
use Rattle.expr_time.specs.declared.moments.TextMethod.{TextMethod}
use Rattle.expr_time.specs.declared.moments.TextMethod.TheVariants as named
use Rattle.expr_value.specs.Answers.{Answer}
use Rattle.expr_value.specs.Values.{duration_of, moment_of}
use Rattle.expr_value.specs.declared.value.Value as value
use Rattle.expr_value.specs.declared.value.Value.{Value, out-Value}
use Rattle.expr_value.specs.declared.value.Value.TheOpen.{Value-F}
use Rattle.expr_schema.specs.Kinds.{Kind, never, bool, integer, string, duration, month, weekday, datetime, timezone, HasKind, Fits, Effect, total, failing}
use Rattle.expr_kinds.specs.Effects.{ResultIs, Yields}
use Rattle.expr_kinds.specs.Methods.{kind_of_field, of_duration, of_moment, of_name}
use Rattle.expr_kinds.specs.Overloads.{HaveKindsThen}
use Rattle.expr_schema.specs.Scopes.{Signature}
use Rattle.expr_kinds.specs.Scopes.{HaveKinds}
use Rattle.expr_kinds.specs.Typed.{BySignature, MethodGives, OneOf}
use Rattle.expr_kinds.proofs.Answered.{ResultIs-under}
use Rattle.expr_kinds.proofs.Calling.{fitting}
use Rattle.expr_kinds.proofs.Found.{Anything, Holds, finds-duration, finds-moment, finds-zone, one-holds}
use Rattle.expr_kinds.proofs.Held.{Of, at-kind, exactly_none}
use Rattle.expr_kinds.proofs.Layers.{Layer, datetime-layer, duration-layer, month-layer, timezone-layer, weekday-layer}
use Rattle.expr_kinds.proofs.OnTexts.{one-string}
use Rattle.expr_kinds.proofs.OnTimes.{moment-or_error}

-- a method that returns what its signature says
abbrev Returns : Signature → (List Value → Answer → Type 0) → Type 0
Returns sig allowed = (vs : List Value) → HaveKindsThen sig.arguments never vs → Yields sig.effect (Of sig.gives) (allowed vs)

-- no argument
alone : (k : Kind) (v : Value) → Of k v → (vs : List Value) → HaveKindsThen [] never vs → ResultIs total (Of k) (without_arguments vs v)
alone k v h = exactly_none (λ us. ResultIs total (Of k) (without_arguments us v)) h

same : (e : Effect) (k : Kind) (r : Answer) → ResultIs e (Of k) r → Yields e (Of k) (λ a. a ≡ r)
same e k r h a is = subst (λ s. ResultIs e (Of k) s) (sym is) h

turned : (e : Effect) (k : Kind) (r : Answer) → ResultIs e (Of k) r → Yields e (Of k) (λ a. r ≡ a)
turned e k r h a is = subst (λ s. ResultIs e (Of k) s) is h

-- durations
stepped : (f : ℤ → ℤ) (vs : List Value) → HaveKindsThen (duration ∷ []) never vs → ResultIs total (Of duration) (by_step (one_duration vs) f)
stepped f vs h =
    let step = one-holds Anything duration_of duration finds-duration vs h in
    subst (λ o. ResultIs total (Of duration) (by_step o f)) (sym step.1) (f step.0, refl)

lengths-hold : (m : DurationMethod) (n : ℤ) → Returns (of_duration m) (λ vs a. a ≡ method_answer m n vs)
lengths-hold duration_method.Abs n vs h = same total duration _ (alone duration _ (_, refl) vs h)
lengths-hold duration_method.Round n vs h = same total duration _ (stepped (rounded_nanos n) vs h)
lengths-hold duration_method.Truncate n vs h = same total duration _ (stepped (truncated_nanos n) vs h)
lengths-hold duration_method.Milliseconds n vs h = same total integer _ (alone integer _ (_, refl) vs h)
lengths-hold duration_method.Microseconds n vs h = same total integer _ (alone integer _ (_, refl) vs h)
lengths-hold duration_method.Nanoseconds n vs h = same total integer _ (alone integer _ (_, refl) vs h)
lengths-hold duration_method.String n vs h = same total string _ (alone string _ (_, refl) vs h)

-- DateTimes
field-kind : (f : DateTimeField) (t : DateTimeValue) → Of (kind_of_field f) (field_value f t)
field-kind field.Year t = (_, refl)
field-kind field.Month t = (_, refl)
field-kind field.Day t = (_, refl)
field-kind field.Hour t = (_, refl)
field-kind field.Minute t = (_, refl)
field-kind field.Second t = (_, refl)
field-kind field.Nanosecond t = (_, refl)
field-kind field.YearDay t = (_, refl)
field-kind field.Weekday t = (_, refl)
field-kind field.Unix t = (_, refl)
field-kind field.UnixMilli t = (_, refl)
field-kind field.UnixMicro t = (_, refl)
field-kind field.UnixNano t = (_, refl)
field-kind field.IsZero t = (_, refl)

module _ (e : Effect) (k : Kind) where
  on-moment : (answers : DateTimeValue → Answer) → ((u : DateTimeValue) → ResultIs e (Of k) (answers u)) → (vs : List Value) → HaveKindsThen (datetime ∷ []) never vs → Yields e (Of k) (λ a. answer_on (one_moment vs) answers ≡ a)
  on-moment answers f vs h =
      let u = one-holds Anything moment_of datetime finds-moment vs h in
      turned e k (answer_on (one_moment vs) answers) (subst (λ o. ResultIs e (Of k) (answer_on o answers)) (sym u.1) (f u.0))

  on-duration : (answers : ℤ → Answer) → ((n : ℤ) → ResultIs e (Of k) (answers n)) → (vs : List Value) → HaveKindsThen (duration ∷ []) never vs → Yields e (Of k) (λ a. answer_on (one_duration vs) answers ≡ a)
  on-duration answers f vs h =
      let n = one-holds Anything duration_of duration finds-duration vs h in
      turned e k (answer_on (one_duration vs) answers) (subst (λ o. ResultIs e (Of k) (answer_on o answers)) (sym n.1) (f n.0))

  on-zone : (answers : TimezoneValue → Answer) → ((z : TimezoneValue) → ResultIs e (Of k) (answers z)) → (vs : List Value) → HaveKindsThen (timezone ∷ []) never vs → Yields e (Of k) (λ a. answer_on (one_zone vs) answers ≡ a)
  on-zone answers f vs h =
      let z = one-holds Anything timezone_of timezone finds-zone vs h in
      turned e k (answer_on (one_zone vs) answers) (subst (λ o. ResultIs e (Of k) (answer_on o answers)) (sym z.1) (f z.0))

length-between : (b : Bool) (n : ℤ) → ResultIs failing (Of duration) (cond b (Ok (value.Duration n)) (Err evaluation))
length-between true n = (n, refl)
length-between false n = tt

located : (o : Option TimezoneValue) (vs : List Value) → HaveKindsThen [] never vs → ResultIs failing (Of timezone) (location_answer vs o)
located None vs h = tt
located (Some zone) vs h = exactly_none (λ us. ResultIs failing (Of timezone) (without_arguments us (value.Timezone zone))) (zone, refl) vs h

added : (t : DateTimeValue) (y m d : ℤ) → Yields failing (Of datetime) (AddsDate t y m d)
added t y m d a (inl (dt, reached, day, clock, is)) = subst (λ r. ResultIs failing (Of datetime) r) is (moment-or_error (at_civil (moment_zone t) dt))
added t y m d a (inr (none, is)) = subst (λ r. ResultIs failing (Of datetime) r) is tt

dates-added : (t : DateTimeValue) (o : Option (ℤ × ℤ × ℤ)) → Yields failing (Of datetime) (AddsDates t o)
dates-added t None a is = subst (λ r. ResultIs failing (Of datetime) r) is tt
dates-added t (Some amounts) a p = added t amounts.0 amounts.1 amounts.2 a p

formatted : (t : DateTimeValue) (o : Option (List ℕ)) → Holds o Anything → Yields total (Of string) (Formats t o)
formatted t o (layout, there, u) = subst (λ p. Yields total (Of string) (Formats t p)) (sym there) (λ a (tokens, is, same_text). subst (λ r. ResultIs total (Of string) r) same_text (_, refl))

moments-hold : (m : DateTimeMethod) (t : DateTimeValue) → Returns (of_moment m) (AnsweredAt m t)
moments-hold (moment.Field f) t vs h = turned total (kind_of_field f) _ (alone (kind_of_field f) _ (field-kind f t) vs h)
moments-hold moment.String t vs h = turned total string _ (alone string _ (_, refl) vs h)
moments-hold moment.Location t vs h = turned failing timezone _ (located (location_of t) vs h)
moments-hold moment.Utc t vs h = turned total datetime _ (alone datetime _ (_, refl) vs h)
moments-hold moment.In t vs h = on-zone total datetime (λ zone. Ok (value.DateTime (moment_in t (Named zone)))) (λ zone. (_, refl)) vs h
moments-hold moment.Add t vs h = on-duration failing datetime (λ n. moment_or_refusal (moment_later t n)) (λ n. moment-or_error (moment_later t n)) vs h
moments-hold moment.Sub t vs h = on-moment failing duration (between t) (λ u. length-between _ _) vs h
moments-hold moment.Round t vs h =
    on-duration failing datetime (λ step. moment_or_refusal (at_instant (instant_rounded (instant t) step) (moment_zone t))) (λ step. moment-or_error _) vs h
moments-hold moment.Truncate t vs h =
    on-duration failing datetime (λ step. moment_or_refusal (at_instant (instant_truncated (instant t) step) (moment_zone t))) (λ step. moment-or_error _) vs h
moments-hold moment.After t vs h = on-moment total bool _ (λ u. (_, refl)) vs h
moments-hold moment.Before t vs h = on-moment total bool _ (λ u. (_, refl)) vs h
moments-hold moment.Equal t vs h = on-moment total bool _ (λ u. (_, refl)) vs h
moments-hold moment.Compare t vs h = on-moment total integer _ (λ u. (_, refl)) vs h
moments-hold moment.AddDate t vs h = dates-added t (three_integers vs)
moments-hold moment.Format t vs h = formatted t (one_text vs) (one-string vs h)

-- time zones, months and weekdays
names-hold : (m : TextMethod) (v : Value) → Returns (of_name m) (λ vs a. a ≡ name_answer m v vs)
names-hold named.String v vs h = same total string _ (alone string _ (_, refl) vs h)

-- each name is of one method
abbrev length_named : List ℕ → Option DurationMethod
length_named key =
    lookup (bytes_eq key) (
    (length_method duration_method.Abs, duration_method.Abs) ∷ (length_method duration_method.Round, duration_method.Round) ∷ (length_method duration_method.Truncate, duration_method.Truncate) ∷ (length_method duration_method.Milliseconds, duration_method.Milliseconds)
    ∷ (length_method duration_method.Microseconds, duration_method.Microseconds) ∷ (length_method duration_method.Nanoseconds, duration_method.Nanoseconds) ∷ (length_method duration_method.String, duration_method.String) ∷ [])

length-found : (m : DurationMethod) → length_named (length_method m) ≡ Some m
length-found duration_method.Abs = refl
length-found duration_method.Round = refl
length-found duration_method.Truncate = refl
length-found duration_method.Milliseconds = refl
length-found duration_method.Microseconds = refl
length-found duration_method.Nanoseconds = refl
length-found duration_method.String = refl

one-length : (m n : DurationMethod) → length_method m ≡ length_method n → m ≡ n
one-length m n q = let is : Some m ≡ Some n = sym (length-found m) ∙ ap length_named q ∙ length-found n in cc is

abbrev at-field : DateTimeField → List ℕ × DateTimeMethod
at-field f = (moment_method (moment.Field f), moment.Field f)

abbrev at-name : DateTimeMethod → List ℕ × DateTimeMethod
at-name m = (moment_method m, m)

abbrev moment_named : List ℕ → Option DateTimeMethod
moment_named key =
    lookup (bytes_eq key) (
    at-field field.Year ∷ at-field field.Month ∷ at-field field.Day ∷ at-field field.Hour ∷ at-field field.Minute ∷ at-field field.Second ∷ at-field field.Nanosecond ∷ at-field field.YearDay ∷ at-field field.Weekday
    ∷ at-field field.Unix ∷ at-field field.UnixMilli ∷ at-field field.UnixMicro ∷ at-field field.UnixNano ∷ at-field field.IsZero
    ∷ at-name moment.String ∷ at-name moment.Location ∷ at-name moment.Utc ∷ at-name moment.In ∷ at-name moment.Add ∷ at-name moment.Sub ∷ at-name moment.Round ∷ at-name moment.Truncate
    ∷ at-name moment.After ∷ at-name moment.Before ∷ at-name moment.Equal ∷ at-name moment.Compare ∷ at-name moment.AddDate ∷ at-name moment.Format ∷ [])

field-found : (f : DateTimeField) → moment_named (moment_method (moment.Field f)) ≡ Some (moment.Field f)
field-found field.Year = refl
field-found field.Month = refl
field-found field.Day = refl
field-found field.Hour = refl
field-found field.Minute = refl
field-found field.Second = refl
field-found field.Nanosecond = refl
field-found field.YearDay = refl
field-found field.Weekday = refl
field-found field.Unix = refl
field-found field.UnixMilli = refl
field-found field.UnixMicro = refl
field-found field.UnixNano = refl
field-found field.IsZero = refl

moment-found : (m : DateTimeMethod) → moment_named (moment_method m) ≡ Some m
moment-found (moment.Field f) = field-found f
moment-found moment.String = refl
moment-found moment.Location = refl
moment-found moment.Utc = refl
moment-found moment.In = refl
moment-found moment.Add = refl
moment-found moment.Sub = refl
moment-found moment.Round = refl
moment-found moment.Truncate = refl
moment-found moment.After = refl
moment-found moment.Before = refl
moment-found moment.Equal = refl
moment-found moment.Compare = refl
moment-found moment.AddDate = refl
moment-found moment.Format = refl

one-moment : (m n : DateTimeMethod) → moment_method m ≡ moment_method n → m ≡ n
one-moment m n q = let is : Some m ≡ Some n = sym (moment-found m) ∙ ap moment_named q ∙ moment-found n in cc is

-- the method of a name returns what its signature says
by-signature : (e : Effect) (ks : List Kind) (k : Kind) (sig : Signature) → BySignature e ks k sig → (allowed : List Value → Answer → Type 0) → Returns sig allowed → (vs : List Value) → HaveKinds ks vs → Yields e (Of k) (allowed vs)
by-signature e ks k sig (fit, q, covers) allowed f vs have a p =
    at-kind e k sig.gives a q (ResultIs-under sig.effect e (Of sig.gives) (Of sig.gives) (λ v h. h) covers a (f vs (fitting ks sig.arguments never vs fit have) a p))

module _ (e : Effect) (key : List ℕ) (ks : List Kind) (k : Kind) (v : Value) (vs : List Value) (have : HaveKinds ks vs) where
  of-length : (m : DurationMethod) → length_method m ≡ key → BySignature e ks k (of_duration m) → (n : ℤ) → Yields e (Of k) (AllowsDurationMethod key n vs)
  of-length m is fit n a (inl (l, named_so, q)) =
      by-signature e ks k (of_duration l) (subst (λ w. BySignature e ks k (of_duration w)) (one-length m l (is ∙ sym named_so)) fit) (λ us r. r ≡ method_answer l n us) (lengths-hold l n) vs have a q
  of-length m is fit n a (inr (none, q)) = absurd (none m is)

  of-moment : (m : DateTimeMethod) → moment_method m ≡ key → BySignature e ks k (of_moment m) → (t : DateTimeValue) → Yields e (Of k) (AllowsMomentMethod key t vs)
  of-moment m is fit t a (inl (l, named_so, q)) =
      by-signature e ks k (of_moment l) (subst (λ w. BySignature e ks k (of_moment w)) (one-moment m l (is ∙ sym named_so)) fit) (AnsweredAt l t) (moments-hold l t) vs have a q
  of-moment m is fit t a (inr (none, q)) = absurd (none m is)

  of-text : (m : TextMethod) → name_method m ≡ key → BySignature e ks k (of_name m) → Yields e (Of k) (AllowsNameMethod key v vs)
  of-text named.String is fit a (inl (named.String, named_so, q)) = by-signature e ks k (of_name named.String) fit (λ us r. r ≡ name_answer named.String v us) (names-hold named.String v) vs have a q
  of-text m is fit a (inr (none, q)) = absurd (none m is)

  by-layer : (l : Layer) → out-Value v ≡ l → Yields e (Of k) (AllowsMethodLayer key v l vs) → Yields e (Of k) (AllowsMethod key v vs)
  by-layer l is f = subst (λ m. Yields e (Of k) (AllowsMethodLayer key v m vs)) (sym is) f

  scalar-named : (a : Kind) → OneOf (Fits a) (timezone ∷ month ∷ weekday ∷ []) → HasKind a v → Yields e (Of k) (AllowsNameMethod key v vs) → Yields e (Of k) (AllowsMethod key v vs)
  scalar-named a (inl fits) h f = let z = fits v h in by-layer (Value-F.Timezone z.0) (timezone-layer v z) f
  scalar-named a (inr (inl fits)) h f = let z = fits v h in by-layer (Value-F.Month z.0) (month-layer v z) f
  scalar-named a (inr (inr (inl fits))) h f = let z = fits v h in by-layer (Value-F.Weekday z.0) (weekday-layer v z) f
  scalar-named a (inr (inr (inr none))) h f = absurd none

  yields : (a : Kind) → MethodGives e a key ks k → HasKind a v → Yields e (Of k) (AllowsMethod key v vs)
  yields a (inl (fits, m, is, fit)) h = let n = fits v h in by-layer (Value-F.Duration n.0) (duration-layer v n) (of-length m is fit n.0)
  yields a (inr (inl (fits, m, is, fit))) h = let t = fits v h in by-layer (Value-F.DateTime t.0) (datetime-layer v t) (of-moment m is fit t.0)
  yields a (inr (inr (fits, m, is, fit))) h = scalar-named a fits h (of-text m is fit)

pub method-yields : (e : Effect) (a : Kind) (key : List ℕ) (ks : List Kind) (k : Kind) → MethodGives e a key ks k → (v : Value) → HasKind a v → (vs : List Value) → HaveKinds ks vs → Yields e (Of k) (AllowsMethod key v vs)
method-yields e a key ks k gives v h vs have = yields e key ks k v vs have a gives h
