-- An engine's limits: the first ones, how one is set, and what expressions come to within them.
use Rattle.std.specs.Prelude.{◌≡◌, ◌≢◌, ℕ, ℤ, pos, negsuc, List, Option, None, Some, MatchOption, Result, Ok, Err, min, option_map}
use Rattle.std.specs.Option.{option_and_then, unwrap_or}
use Rattle.expr_syntax.specs.Refused.{IsRefused}
use Rattle.expr_exchange.specs.declared.call.Ask.{Ask}
use Rattle.expr_exchange.specs.declared.call.Ask.TheVariants as is
use Rattle.expr_exchange.specs.declared.call.Call.{Call}
use Rattle.expr_exchange.specs.Limits.{limit_by_number}
use Rattle.expr_limits.specs.declared.limit.Limit.{Limit}
use Rattle.expr_limits.specs.declared.limit.Limit.TheVariants.{Nesting, Patterns, Steps, Depth, Size}
use Rattle.expr_limits.specs.declared.limits.Limits.{Limits}
use Rattle.expr_limits.specs.declared.outcome.Outcome.{Outcome}
use Rattle.expr_limits.specs.declared.outcome.Outcome.TheVariants.{Answered, Stopped}
use Rattle.expr_stops.specs.declared.used.Used.{Used}
use Rattle.expr_syntax.specs.Bounds.{IsHeavier, IsHigher, IsLight}
use Rattle.expr_syntax.specs.Texts.{IsProgramOf, IsProgramWithin}
use Rattle.expr_tree.specs.Term.{Block}
use Rattle.expr_error.specs.ErrorKind.{error_kind, memory}
use Rattle.expr_error.specs.declared.error.Error.{Error}

-- the limits for untrusted expressions
abbrev pub untrusted : Limits
untrusted = record { nesting = 5000; patterns = 100000; steps = 1000000; depth = 1000; size = 1000000 }

-- these limits, one of them with another number
abbrev pub with_limit : Limit → ℕ → Limits → Limits
with_limit Nesting n limits = record { nesting = n; patterns = limits.patterns; steps = limits.steps; depth = limits.depth; size = limits.size }
with_limit Patterns n limits = record { nesting = limits.nesting; patterns = n; steps = limits.steps; depth = limits.depth; size = limits.size }
with_limit Steps n limits = record { nesting = limits.nesting; patterns = limits.patterns; steps = n; depth = limits.depth; size = limits.size }
with_limit Depth n limits = record { nesting = limits.nesting; patterns = limits.patterns; steps = limits.steps; depth = n; size = limits.size }
with_limit Size n limits = record { nesting = limits.nesting; patterns = limits.patterns; steps = limits.steps; depth = limits.depth; size = n }

-- the limits with one of them set; without limits, the others are those for untrusted expressions
abbrev pub limits_with : Option Limits → Limit → ℕ → Limits
limits_with limits limit n = with_limit limit n (unwrap_or limits untrusted)

-- the limits that a call asks for by the number of a limit and a number from 0; none if there are no such
-- numbers
abbrev pub limits_asked : Option Limits → (kind : ℕ) → (number : ℤ) → Option Limits
limits_asked limits kind (pos n) = option_map (λ limit. limits_with limits limit n) (limit_by_number kind)
limits_asked limits kind (negsuc n) = None

-- How a call changes the limits: one sets a limit or is misused, one removes all, and no other call changes
-- them. The caller says how the call ended.
abbrev pub LimitsBy : Ask → Option Limits → Call → (Done Misused : Type 0) → Option Limits → Type 0
LimitsBy is.Limit old call Done Misused new =
    MatchOption (limits_asked old call.kind call.number) (Misused × (new ≡ old))
    (λ limits. Done × (new ≡ Some limits))
LimitsBy is.Unlimited old call Done Misused new = Done × (new ≡ None)
LimitsBy ask old call Done Misused new = new ≡ old

-- how much a run used of a limit: its steps are counted and its size, and nothing of the other limits
abbrev pub used_of_limit : Used → Limit → Option ℕ
used_of_limit used Nesting = None
used_of_limit used Patterns = None
used_of_limit used Steps = Some used.steps
used_of_limit used Depth = None
used_of_limit used Size = Some used.size

-- the same of the limit of a number
abbrev pub used_asked : Used → (kind : ℕ) → Option ℕ
used_asked used kind = option_and_then (used_of_limit used) (limit_by_number kind)

-- a count as the number of a call, which may not be as great
abbrev pub most_told : ℕ → ℕ
most_told count = min count 9223372036854775807

-- The program is one of the expression, whose tree and whose literal patterns are within the limits, if there
-- are any.
abbrev pub IsProgramBy : Option Limits → List ℕ → Block → Type 0
IsProgramBy (Some limits) text b = IsProgramWithin text limits.nesting b × IsLight text limits.patterns
IsProgramBy None text b = IsProgramOf text b

-- The expression passes this limit.
abbrev pub Passes : Option Limits → List ℕ → Limit → Type 0
Passes (Some limits) text Nesting = IsHigher text limits.nesting
Passes (Some limits) text Patterns = IsHeavier text limits.patterns
Passes (Some limits) text limit = ⊥
Passes None text limit = ⊥

-- An expression has such a program, or passes a limit, or has an error of its own, or lacks memory.
abbrev pub IsCompiledBy : {A : Type 0} → Option Limits → List ℕ → (A → Block) → Result (Outcome A) Error → Type 0
IsCompiledBy limits text program_of (Ok (Answered p)) = IsProgramBy limits text (program_of p)
IsCompiledBy limits text program_of (Ok (Stopped limit)) = Passes limits text limit
IsCompiledBy limits text program_of (Err e) = error_kind e ≢ memory → IsRefused text (Err (error_kind e))
