-- What an environment has added.
use Rattle.std.specs.Prelude.{◌≡◌, ◌||◌, ℕ, Bool, List, MatchOption, Result, Ok, Err, Option, None, Some, bytes_eq, if◌then◌else◌, is_some, option_map, string_bytes}
use Rattle.std.specs.HashMap.{get_by_text}
use Rattle.expr_value.specs.Answers.{Answer}
use Rattle.expr_error.specs.ErrorKind.{error_kind}
use Rattle.expr_error.specs.declared.error.Error.{Error}
use Rattle.expr_datetime.specs.declared.moment.DateTimeValue.{DateTimeValue}
use Rattle.expr_value.specs.declared.value.Value.{Value}
use Rattle.expr_datetime.specs.declared.zone.TimezoneValue.{TimezoneValue}
use Rattle.expr_meaning.specs.Host.{Host}
use Rattle.expr_versions.specs.Versions.{VersionsReturn, function_added}
use Rattle.expr_meaning.specs.declared.environment.ExprCall.{ExprCall}
use Rattle.expr.specs.declared.environment.Environment.{Environment}
use Rattle.expr.specs.declared.boxed_function.BoxedFunction.{BoxedFunction}

-- a result as contracts see it
abbrev pub answer_of : Result Value Error → Answer
answer_of (Ok v) = Ok v
answer_of (Err e) = Err (error_kind e)

-- some call of this name on these values has this result, by the relation of calls and results of the box
pub record FunctionMayReturn (relation : ExprCall → Result Value Error → Type 0) (key : List ℕ) (vs : List Value) (answer : Answer) : Type 0 where
  pub call : ExprCall
  pub result : Result Value Error
  pub name : string_bytes call.ident ≡ key
  pub arguments : call.args.items ≡ vs
  pub related : relation call result
  pub stands : answer_of result ≡ answer

-- the function under a name
abbrev pub function_named : {x f g : _} → Environment x f g → List ℕ → Option (BoxedFunction x f g)
function_named env key = get_by_text env.functions key

-- the relation of calls and results of the function's box
abbrev pub relation_of : {x f g : _} → BoxedFunction x f g → ExprCall → Result Value Error → Type 0
relation_of {g = g} r call result = g.post (r.function.vtable, r.function.value) (call, tt) result

-- the zone of a name
abbrev pub zone_at : {x f g : _} → Environment x f g → List ℕ → Option TimezoneValue
zone_at env key = get_by_text env.zones key

-- there is nothing under any name
abbrev pub FindsNothing : {A : Type 0} → (List ℕ → Option A) → Type 0
FindsNothing found = (key : List ℕ) → found key ≡ None

-- each name has the same
abbrev pub FindSame : {A : Type 0} → (List ℕ → Option A) → (List ℕ → Option A) → Type 0
FindSame old new = (key : List ℕ) → new key ≡ old key

-- This is now under one name, as this part shows, and each other name has what it had.
abbrev pub IsAdded : {A B : Type 0} → (A → B) → List ℕ → B → (List ℕ → Option A) → (List ℕ → Option A) → Type 0
IsAdded part name added old new = (key : List ℕ) → option_map part (new key) ≡ (if bytes_eq name key then Some added else option_map part (old key))

-- the current time
abbrev pub moment_set : {x f g : _} → Environment x f g → Option DateTimeValue
moment_set env = env.moment

-- whether the functions on versions are added
abbrev pub has_versions : {x f g : _} → Environment x f g → Bool
has_versions env = env.versions

abbrev pub host_with : (List ℕ → Option TimezoneValue) → Option DateTimeValue → Bool → {x f g : _} → (List ℕ → Option (BoxedFunction x f g)) → Host
host_with zones moment versions functions = record {
  is_added = λ key. is_some (functions key) || is_some (function_added versions key);
  calls = λ key vs answer. MatchOption (functions key) (VersionsReturn versions key vs answer)
      (λ r. FunctionMayReturn (relation_of r) key vs answer);
  zones = zones;
  moment = moment;
}

-- what an environment has added
abbrev pub host_of : {x f g : _} → Environment x f g → Host
host_of env = host_with (zone_at env) (moment_set env) (has_versions env) (function_named env)
