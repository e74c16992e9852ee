-- For which hosts a scope holds, and what it says of a name.
use Rattle.std.specs.Prelude.{◌≡◌, ℕ, Bool, true, false, List, [], ◌∷◌, Option, Some, None, bytes_eq, codes, is_some, if◌then◌else◌}
use Rattle.expr_value.specs.Answers.{Answer}
use Rattle.expr_value.specs.declared.value.Value.{Value}
use Rattle.expr_functions.specs.declared.functions.HigherOrderCall.{HigherOrderCall}
use Rattle.expr_functions.specs.declared.functions.HigherOrderCall.TheVariants.{Map}
use Rattle.expr_meaning.specs.Host.{Host}
use Rattle.expr_context.specs.Context.{hash}
use Rattle.expr_schema.specs.Scopes.{Scope, Signature}
use Rattle.expr_schema.specs.Kinds.{Kind, integer, nil, nilable, Fields, no_others, others, field, HasKind}
use Rattle.expr_kinds.specs.Effects.{Yields}

-- as many values as kinds, each of the kind at its place
abbrev pub HaveKinds : List Kind → List Value → Type 0
HaveKinds [] [] = Unit {0}
HaveKinds [] (v ∷ vs) = ⊥
HaveKinds (k ∷ ks) [] = ⊥
HaveKinds (k ∷ ks) (v ∷ vs) = HasKind k v × HaveKinds ks vs

-- calls with arguments of these kinds return what the signature says
abbrev pub KeepsTo : Signature → (List Value → Answer → Type 0) → Type 0
KeepsTo sig allowed = (vs : List Value) → HaveKinds sig.arguments vs → Yields sig.effect (λ v. HasKind sig.gives v) (allowed vs)

-- a host has added exactly the functions of a scope, and each returns what its signature says
pub record Hosts (s : Scope) (host : Host) : Type 0 where
  pub added : (key : List ℕ) → host.is_added key ≡ is_some (s.functions key)
  pub calls : (key : List ℕ) (sig : Signature) → s.functions key ≡ Some sig → KeepsTo sig (host.calls key)

-- the scope with a value of a kind at one name
abbrev pub bind_kind : List ℕ → Kind → Scope → Scope
bind_kind key k s = record s { names = field key k true s.names }

-- the scope of a predicate: `#` is an item of this kind, and `map` binds `#index` too
abbrev pub asked : HigherOrderCall → Kind → Scope → Scope
asked Map item s = bind_kind hash item (bind_kind (codes "#index") integer s)
asked b item s = bind_kind hash item s

-- the kind of the value of a name, which is nil where the name may have none
abbrev pub at_name : Fields → List ℕ → Kind
at_name no_others name = nil
at_name (others kind) name = nilable kind
at_name (field key kind required rest) name = if bytes_eq key name then (if required then kind else nilable kind) else at_name rest name

-- the kind of a name that always has a value
abbrev pub given_at : Fields → List ℕ → Option Kind
given_at no_others name = None
given_at (others kind) name = None
given_at (field key kind required rest) name = if bytes_eq key name then (if required then Some kind else None) else given_at rest name

-- whether the name never has a value
abbrev pub is_absent : Fields → List ℕ → Bool
is_absent no_others name = true
is_absent (others kind) name = false
is_absent (field key kind required rest) name = if bytes_eq key name then false else is_absent rest name
