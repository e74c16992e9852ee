-- Which programs are of a kind, by cases on their tree.
use Rattle.std.specs.Prelude.{◌≡◌, ◌⊎◌, ℕ, Bool, true, false, ◌||◌, List, [], ◌∷◌, map as mapped, Option, Some, None, is_some, MatchBool, MatchOption, bytes_eq, codes}
use Rattle.expr_context.specs.Context.{hash}
use Rattle.expr_datetime.specs.declared.moment.DateTimeValue.{DateTimeValue}
use Rattle.expr_datetime.specs.declared.zone.TimezoneValue.{TimezoneValue}
use Rattle.expr_error.specs.ErrorKind.{pattern}
use Rattle.expr_functions.specs.Functions.{builtin_named}
use Rattle.expr_functions.specs.Strictness.{operator_strictness}
use Rattle.expr_functions.specs.declared.functions.Builtin.{Builtin}
use Rattle.expr_functions.specs.declared.functions.Builtin.TheVariants as builtin
use Rattle.expr_functions.specs.declared.functions.HigherOrderCall.{HigherOrderCall}
use Rattle.expr_functions.specs.declared.functions.HigherOrderCall.TheVariants as higher
use Rattle.expr_functions.specs.declared.functions.CollectionCall.TheVariants.{Get}
use Rattle.expr_functions.specs.declared.functions.ValueCall.{ValueCall}
use Rattle.expr_functions.specs.declared.functions.ValueCall.TheVariants.{Collection}
use Rattle.expr_functions.specs.declared.operator.Operator.{Operator}
use Rattle.expr_functions.specs.declared.strictness.Strictness.{Strictness}
use Rattle.expr_functions.specs.declared.strictness.Strictness.TheVariants.{Both, EndsAtFalse, EndsAtTrue, Pattern}
use Rattle.expr_meaning.specs.Allows.{is_given}
use Rattle.expr_meaning.specs.Calls.{AllowsOnValues}
use Rattle.expr_meaning.specs.Host.{Host, no_host}
use Rattle.expr_predicates.specs.Calls.{runs_alone}
use Rattle.expr_time.specs.LengthMethods.{name_of as length_method}
use Rattle.expr_time.specs.Moments.{moment_method, name_method}
use Rattle.expr_time.specs.declared.length_method.DurationMethod.{DurationMethod}
use Rattle.expr_time.specs.declared.moments.DateTimeMethod.{DateTimeMethod}
use Rattle.expr_time.specs.declared.moments.TextMethod.{TextMethod}
use Rattle.expr_tree.specs.Term.{Term, name, literal, list, mapping, range, call, unary, operation, postfix, choice, Postfix, index, slice, coalesce, pipe, ternary, method, Bound, unbounded, bound, Terms, no_terms, term, TermPairs, pairs_end, pair, Predicate, no_predicate, predicate, Block, answers, line}
use Rattle.expr_value.specs.Values.{key_of}
use Rattle.expr_value.specs.declared.value.Value as value
use Rattle.expr_value.specs.declared.value.Value.{Value}
use Rattle.expr_kinds.specs.Causes.{Literals, direction_at, effect_under}
use Rattle.expr_schema.specs.Kinds.{Kind, any, never, bool, integer, string, bytes, duration, month, weekday, datetime, timezone, array, map, keyed, nilable, Fields, no_others, others, field, HasKind, Each, Fits, Effect, failing}
use Rattle.expr_kinds.specs.Effects.{AdmitsError, CoversEffect, Yields}
use Rattle.expr_kinds.specs.Methods.{of_duration, of_moment, of_name}
use Rattle.expr_kinds.specs.Narrowing.{after, assuming}
use Rattle.expr_kinds.specs.Overloads.{Overload, overloads}
use Rattle.expr_schema.specs.Scopes.{Scope, Signature}
use Rattle.expr_kinds.specs.Scopes.{bind_kind, asked, at_name, given_at, is_absent}
use Rattle.expr_kinds.specs.Tables.{OperatorRow, rows, unary_kind}

-- of some kind that fits the wanted one
abbrev pub Within : (Kind → Type 0) → Kind → Type 0
Within typed k = (a : Kind) × typed a × Fits a k

-- nothing is known, which any tree may be if the effect admits every error
abbrev pub Unknown : Effect → Kind → Type 0
Unknown e k = (e ≡ failing) × (k ≡ any)

-- a property holds, or the effect admits every error
abbrev pub OrFails : Effect → Type 0 → Type 0
OrFails e P = P ⊎ CoversEffect e failing

-- one item of a list has a property
abbrev pub OneOf : {X : Type 0} → (X → Type 0) → List X → Type 0
OneOf P [] = ⊥
OneOf P (x ∷ xs) = P x ⊎ OneOf P xs

-- a name that always has a value; or, if it never has one, a field that the item at `#` always has
abbrev pub NameStands : Scope → List ℕ → Kind → Type 0
NameStands s key k =
    (given_at s.names key ≡ Some k) ⊎ ((h : Kind) × (fs : Fields) × (is_absent s.names key ≡ true) × (given_at s.names hash ≡ Some h) × Fits h (map fs) × (given_at fs key ≡ Some k))

-- the kind of a name: that of all fields for `$env`
abbrev pub NameHas : Scope → List ℕ → Kind → Type 0
NameHas s key k = MatchBool (bytes_eq key (codes "$env")) (k ≡ map s.environment) (NameStands s key k)

-- the value of a tree that is a literal
abbrev pub literal_of : Term → Option Value
literal_of (literal v) = Some v
literal_of t = None

-- the literals among some trees
abbrev pub literals_of : Terms → Literals
literals_of no_terms = []
literals_of (term t ts) = literal_of t ∷ literals_of ts

-- both sides fit a row of the operator's table
abbrev pub ByRow : Effect → Literals → (Kind → Type 0) → (Kind → Type 0) → Kind → OperatorRow → Type 0
ByRow e known left right k r = Within left r.left × Within right r.right × (k ≡ r.gives) × CoversEffect e (effect_under r.cause known)

-- the kind of an operation, given its literals and the kinds of its sides
abbrev pub OperationGivesBy : Strictness → Effect → Operator → Literals → (Kind → Type 0) → (Kind → Type 0) → Kind → Type 0
OperationGivesBy Both e op known left right k = OneOf (ByRow e known left right k) (rows op)
OperationGivesBy EndsAtFalse e op known left right k = Within left bool × Within right bool × (k ≡ bool)
OperationGivesBy EndsAtTrue e op known left right k = Within left bool × Within right bool × (k ≡ bool)
OperationGivesBy Pattern e op known left right k = Within left string × Within right string × (k ≡ bool) × AdmitsError e pattern

-- the same by the sides that the operator evaluates
abbrev pub OperationGives : Effect → Operator → Literals → (Kind → Type 0) → (Kind → Type 0) → Kind → Type 0
OperationGives e op known left right k = OperationGivesBy (operator_strictness op) e op known left right k

-- the key is a literal string
abbrev pub NamedBy : Term → List ℕ → Type 0
NamedBy key n = key ≡ literal (value.String n)

-- the kind of the part at a key: a field by its name, an item or a byte by its index, and the value of a key
abbrev pub PartGives : Kind → Term → (Kind → Type 0) → Kind → Type 0
PartGives a key keyed_by k =
    ((fs : Fields) × (n : List ℕ) × NamedBy key n × Fits a (map fs) × (k ≡ at_name fs n))
    ⊎ (((item : Kind) × Fits a (array item) × Within keyed_by integer × (k ≡ nilable item))
    ⊎ ((Fits a bytes × Within keyed_by integer × (k ≡ nilable integer))
    ⊎ (((item : Kind) × Fits a (map (others item)) × Within keyed_by string × (k ≡ nilable item))
    ⊎ ((item : Kind) × Fits a (keyed item) × ((b : Kind) × keyed_by b) × (k ≡ nilable item)))))

-- With `?`, what is nil has no parts, which is no error. Nor is it an error if another value has none.
abbrev pub OptionalPartGives : Kind → Term → (Kind → Type 0) → Kind → Type 0
OptionalPartGives a key keyed_by k =
    ((b : Kind) × (part : Kind) × Fits a (nilable b) × PartGives b key keyed_by part × (k ≡ nilable part)) ⊎ (((b : Kind) × keyed_by b) × (k ≡ any))

-- the kind of the part at a key, with `?` or without
abbrev pub IndexGives : Bool → Kind → Term → (Kind → Type 0) → Kind → Type 0
IndexGives optional a key keyed_by k = PartGives a key keyed_by k ⊎ ((optional ≡ true) × OptionalPartGives a key keyed_by k)

-- each value of a kind is a scalar
abbrev pub IsScalarKind : Kind → Type 0
IsScalarKind k = (v : Value) → HasKind k v → is_some (key_of v) ≡ true

-- as many kinds as are wanted, each of which fits the one at its place, and then any number that fit a further one
abbrev pub AllFit : List Kind → List Kind → Kind → Type 0
AllFit ks [] more = Each (λ k. Fits k more) ks
AllFit [] (b ∷ bs) more = ⊥
AllFit (k ∷ ks) (b ∷ bs) more = Fits k b × AllFit ks bs more

-- the arguments fit a signature
abbrev pub BySignature : Effect → List Kind → Kind → Signature → Type 0
BySignature e ks k sig = AllFit ks sig.arguments never × (k ≡ sig.gives) × CoversEffect e sig.effect

-- the arguments fit an overload
abbrev pub ByOverload : Effect → Literals → List Kind → Kind → Overload → Type 0
ByOverload e known ks k o = AllFit ks o.takes o.more × (k ≡ o.gives) × CoversEffect e (effect_under o.cause known)

-- a host with these time zones and this current time
abbrev pub host_timed : (List ℕ → Option TimezoneValue) → Option DateTimeValue → Host
host_timed zones moment = record no_host { zones = zones; moment = moment }

-- All arguments are literals, and each result for them is of the kind.
abbrev pub ByLiterals : Effect → Literals → ValueCall → Kind → Type 0
ByLiterals e known f k =
    (vs : List Value) × (known ≡ mapped (λ v. Some v) vs) × ((zones : List ℕ → Option TimezoneValue) (moment : Option DateTimeValue) → Yields e (λ v. HasKind k v) (AllowsOnValues (host_timed zones moment) f vs))

-- `get` with a literal name returns a field of a map
abbrev pub GetsField : ValueCall → Literals → List Kind → Kind → Type 0
GetsField f known ks k =
    (a : Kind) × (b : Kind) × (fs : Fields) × (n : List ℕ) × (o : Option Value) × (f ≡ Collection Get) × (ks ≡ a ∷ b ∷ []) × (known ≡ o ∷ Some (value.String n) ∷ []) × Fits a (map fs) × (k ≡ at_name fs n)

-- the kind of a predicate in a scope, given the kind of the items
abbrev pub Asking : Type 1
Asking = Scope → Kind → Kind → Type 0

-- the kind that a built-in with a predicate returns, given the kind of the items and that of the predicate's results
abbrev pub FoldGives : Effect → HigherOrderCall → Kind → Kind → Kind → Type 0
FoldGives e higher.All item answer k = k ≡ bool
FoldGives e higher.Any item answer k = k ≡ bool
FoldGives e higher.NoneOf item answer k = k ≡ bool
FoldGives e higher.One item answer k = k ≡ bool
FoldGives e higher.Map item answer k = k ≡ array answer
FoldGives e higher.Filter item answer k = k ≡ array item
FoldGives e higher.Find item answer k = k ≡ nilable item
FoldGives e higher.FindIndex item answer k = k ≡ integer
FoldGives e higher.FindLast item answer k = k ≡ nilable item
FoldGives e higher.FindLastIndex item answer k = k ≡ integer
FoldGives e higher.Count item answer k = OrFails e (Fits answer bool) × (k ≡ integer)
FoldGives e higher.Sum item answer k = OrFails e (Fits answer integer) × (k ≡ integer)
FoldGives e higher.GroupBy item answer k = OrFails e (IsScalarKind answer) × (k ≡ keyed (array item))
FoldGives e higher.SortBy item answer k = OrFails e (Fits answer integer ⊎ Fits answer string) × (k ≡ array item)
FoldGives e higher.Reduce item answer k = ⊥

-- the scope of the predicate of `reduce`: `#acc` is of this kind
abbrev pub accumulating : Kind → Kind → Scope → Scope
accumulating acc item s = bind_kind hash item (bind_kind (codes "#index") integer (bind_kind (codes "#acc") acc s))

-- the kind of `#acc` takes in the initial value, which is the first item if none is given
abbrev pub StartsAs : Effect → Kind → Kind → List Kind → Type 0
StartsAs e acc item (xs ∷ []) = (xs ≡ array item) × Fits item acc × CoversEffect e failing
StartsAs e acc item (xs ∷ init ∷ []) = (xs ≡ array item) × Fits init acc
StartsAs e acc item ks = ⊥

-- an array, and perhaps a direction
abbrev pub IsDirected : Effect → Literals → Kind → List Kind → Type 0
IsDirected e known item (xs ∷ []) = xs ≡ array item
IsDirected e known item (xs ∷ d ∷ []) = (xs ≡ array item) × Fits d string × CoversEffect e (effect_under (direction_at 1) known)
IsDirected e known item ks = ⊥

-- the kind of a call of a built-in with a predicate. `reduce` keeps one kind of `#acc`, and `sortBy` takes a direction.
abbrev pub HigherOrderGives : Effect → Scope → HigherOrderCall → Literals → List Kind → Bool → Asking → Kind → Type 0
HigherOrderGives e s higher.Reduce known ks given asks k =
    (item : Kind) × (answer : Kind) × (given ≡ true) × StartsAs e k item ks × asks (accumulating k item s) item answer × Fits answer k
HigherOrderGives e s higher.SortBy known ks given asks k =
    (item : Kind) × (answer : Kind) × (given ≡ true) × IsDirected e known item ks × asks (asked higher.SortBy item s) item answer × FoldGives e higher.SortBy item answer k
HigherOrderGives e s b known ks given asks k =
    (item : Kind) × (answer : Kind) × (ks ≡ array item ∷ []) × ((given || runs_alone b) ≡ true) × asks (asked b item s) item answer × FoldGives e b item answer k

-- the kind of a call of a built-in with arguments of these kinds, of which these are literals
abbrev pub BuiltinGives : Effect → Scope → Option Builtin → Literals → List Kind → Bool → Asking → Kind → Type 0
BuiltinGives e s (Some (builtin.OnValues f)) known ks given asks k = ((x : Kind) × OneOf (ByOverload e known ks k) (overloads f x)) ⊎ (ByLiterals e known f k ⊎ GetsField f known ks k)
BuiltinGives e s (Some (builtin.HigherOrder b)) known ks given asks k = HigherOrderGives e s b known ks given asks k
BuiltinGives e s None known ks given asks k = ⊥

-- the kind of a call: a function of the host comes before a built-in
abbrev pub CallGives : Effect → Scope → List ℕ → Literals → List Kind → Bool → Asking → Kind → Type 0
CallGives e s key known ks given asks k = MatchOption (s.functions key) (BuiltinGives e s (builtin_named key) known ks given asks k) (BySignature e ks k)

-- the kind of a method of a value of a kind
abbrev pub MethodGives : Effect → Kind → List ℕ → List Kind → Kind → Type 0
MethodGives e a key ks k =
    (Fits a duration × (m : DurationMethod) × (length_method m ≡ key) × BySignature e ks k (of_duration m))
    ⊎ ((Fits a datetime × (m : DateTimeMethod) × (moment_method m ≡ key) × BySignature e ks k (of_moment m))
    ⊎ (OneOf (Fits a) (timezone ∷ month ∷ weekday ∷ []) × (m : TextMethod) × (name_method m ≡ key) × BySignature e ks k (of_name m)))

abbrev mutual
  -- each result of the tree is a value of the kind, or an error that the effect admits
  pub Typed : Effect → Scope → Term → Kind → Type 0
  Typed e s (name key) k = NameHas s key k ⊎ Unknown e k
  Typed e s (literal v) k = HasKind k v
  Typed e s (list ts) k = ((item : Kind) × (k ≡ array item) × TypedAll e s ts item) ⊎ Unknown e k
  Typed e s (mapping ps) k = ((fs : Fields) × (k ≡ map fs) × TypedPairs e s ps no_others fs) ⊎ Unknown e k
  Typed e s (range first last) k = (Within (λ a. Typed e s first a) integer × Within (λ a. Typed e s last a) integer × (k ≡ array integer)) ⊎ Unknown e k
  Typed e s (call key ts p) k =
      ((ks : List Kind) × TypedEach e s ts ks × CallGives e s key (literals_of ts) ks (is_given p) (λ inside item answer. TypedPredicate e inside item p answer) k) ⊎ Unknown e k
  Typed e s (unary op t) k = (Within (λ a. Typed e s t a) (unary_kind op) × (k ≡ unary_kind op)) ⊎ Unknown e k
  Typed e s (operation op l r) k =
      OperationGives e op (literal_of l ∷ literal_of r ∷ []) (λ a. Typed e s l a) (λ a. Typed e (after (operator_strictness op) l s) r a) k ⊎ Unknown e k
  Typed e s (postfix p t) k = ((a : Kind) × Typed e s t a × TypedPostfix e s t p a k) ⊎ Unknown e k
  Typed e s (choice c first second) k =
      (Within (λ a. Typed e s c a) bool × Within (λ a. TypedBlock e (assuming c true s) first a) k × Within (λ a. TypedBlock e (assuming c false s) second a) k) ⊎ Unknown e k

  -- the same of a postfix operator after an operand of a kind
  pub TypedPostfix : Effect → Scope → Term → Postfix → Kind → Kind → Type 0
  TypedPostfix e s o (index key optional) a k = IndexGives optional a key (λ b. Typed e s key b) k
  TypedPostfix e s o (slice start stop) a k =
      TypedBound e s start × TypedBound e s stop × (((item : Kind) × Fits a (array item) × (k ≡ array item)) ⊎ ((Fits a string × (k ≡ string)) ⊎ (Fits a bytes × (k ≡ bytes))))
  TypedPostfix e s o (coalesce t) a k = (b : Kind) × Fits a (nilable b) × Fits b k × Within (λ c. Typed e s t c) k
  TypedPostfix e s o (pipe t) a k = TypedPiped e s o t a k
  TypedPostfix e s o (ternary first second) a k = Fits a bool × Within (λ b. Typed e (assuming o true s) first b) k × Within (λ b. Typed e (assuming o false s) second b) k
  TypedPostfix e s o (method key ts) a k = (ks : List Kind) × TypedEach e s ts ks × MethodGives e a key ks k

  -- the same of a bound of a slice, which is an integer if it is there
  pub TypedBound : Effect → Scope → Bound → Type 0
  TypedBound e s unbounded = Unit {0}
  TypedBound e s (bound t) = Within (λ a. Typed e s t a) integer

  -- the same of a pipe from a value of a kind into a call
  pub TypedPiped : Effect → Scope → Term → Term → Kind → Kind → Type 0
  TypedPiped e s o (call key ts p) a k =
      (b : Kind) × (ks : List Kind) × Fits a b × TypedEach e s ts ks
      × CallGives e s key (literal_of o ∷ literals_of ts) (b ∷ ks) (is_given p) (λ inside item answer. TypedPredicate e inside item p answer) k
  TypedPiped e s o t a k = ⊥

  -- the same of a predicate; without one, each item is the result for itself
  pub TypedPredicate : Effect → Scope → Kind → Predicate → Kind → Type 0
  TypedPredicate e s item no_predicate k = k ≡ item
  TypedPredicate e s item (predicate b) k = TypedBlock e s b k

  -- each of these trees is of some kind that fits
  pub TypedAll : Effect → Scope → Terms → Kind → Type 0
  TypedAll e s no_terms k = Unit {0}
  TypedAll e s (term t ts) k = Within (λ a. Typed e s t a) k × TypedAll e s ts k

  -- each of these trees is of some kind that fits the one at its place
  pub TypedEach : Effect → Scope → Terms → List Kind → Type 0
  TypedEach e s no_terms ks = ks ≡ []
  TypedEach e s (term t ts) ks = (k : Kind) × (rest : List Kind) × (ks ≡ k ∷ rest) × Within (λ a. Typed e s t a) k × TypedEach e s ts rest

  -- the fields of a map literal, after those before: the later value of a repeated key counts
  pub TypedPairs : Effect → Scope → TermPairs → Fields → Fields → Type 0
  TypedPairs e s pairs_end before fs = fs ≡ before
  TypedPairs e s (pair key t ps) before fs = (a : Kind) × Typed e s t a × TypedPairs e s ps (field key a true before) fs

  -- the same of a program: each line binds its name to the kind of its value for what follows
  pub TypedBlock : Effect → Scope → Block → Kind → Type 0
  TypedBlock e s (answers t) k = Typed e s t k
  TypedBlock e s (line key t b) k = (a : Kind) × Typed e s t a × TypedBlock e (bind_kind key a s) b k
