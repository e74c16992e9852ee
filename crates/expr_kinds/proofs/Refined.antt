-- What is known of a scope is known too where a condition has narrowed its names.
use Rattle.std.proofs.Common.{◌≡◌, ℕ, Bool, true, false, not, cond, List, Option, Some, None, option_map, MatchBool, bytes_eq, codes, refl, sym, ◌∙◌, subst, inr}
use Rattle.std.proofs.lemmas.Slice.Eq.{bytes_eq-Decides}
use Rattle.expr_context.specs.Context.{hash}
use Rattle.expr_functions.specs.declared.operator.Operator.TheVariants.{And, Or, Equal, NotEqual, In, NotIn}
use Rattle.expr_functions.specs.declared.operator.UnaryOperator.TheVariants.{Not}
use Rattle.expr_functions.specs.declared.strictness.Strictness.{Strictness}
use Rattle.expr_functions.specs.declared.strictness.Strictness.TheVariants.{Both, EndsAtFalse, EndsAtTrue, Pattern}
use Rattle.expr_tree.specs.Term.{Term, name, literal, unary, operation, postfix, index}
use Rattle.expr_value.specs.Names.{find}
use Rattle.expr_value.specs.Values.{string_of}
use Rattle.expr_value.specs.declared.value.Value.{Value, out-Value}
use Rattle.expr_value.specs.declared.value.Value.TheOpen.{Value-F}
use Rattle.expr_schema.specs.Kinds.{Kind, nil, map, nilable, Fields, no_others, others, field, HasKind, Fits, Found, StandsAt}
use Rattle.expr_schema.specs.Scopes.{Scope}
use Rattle.expr_kinds.specs.Checks.{Upholds}
use Rattle.expr_kinds.specs.Narrowing.{Refinement, after, assuming, bind_if, having, having_name, in_field, in_part, non_nil, present_at, refined, refining, refining_name, unlike, unlike_layer, knowing_name}
use Rattle.expr_kinds.specs.Scopes.{at_name, bind_kind, given_at, is_absent}

pub keeps-self : (s : Scope) → Upholds s s
keeps-self s = record { environment = refl; functions = refl; given = λ key k q. (k, q, λ v h. h); absent = λ key q. q }

-- A refinement leaves only values of the kind, and no nil but of what may be nil itself. Of nil it makes nothing.
record Refines (refine : Refinement) : Type 0 where
  fits : (a k : Kind) → refine a ≡ Some k → Fits k a
  beneath : (b k : Kind) → refine (nilable b) ≡ Some k → Fits k b
  no_nil : refine nil ≡ None

same-kinds : (a b : Kind) → Some a ≡ Some b → a ≡ b
same-kinds a b q = cc q

mapped-some : {A B : Type 0} (f : A → B) (o : Option A) (b : B) → option_map f o ≡ Some b → (a : A) × (o ≡ Some a) × (f a ≡ b)
mapped-some f None b q = absurd (cc q)
mapped-some f (Some a) b q = let is : f a ≡ b = cc q in (a, refl, is)

-- values that aren't nil
non_nil-fits : (a k : Kind) → non_nil a ≡ Some k → Fits k a
non_nil-fits (nilable a) k q v h = inr (subst (λ j. HasKind j v) (sym (same-kinds a k q)) h)
non_nil-fits a k q v h = absurd (cc q)

non_nil-beneath : (b k : Kind) → non_nil (nilable b) ≡ Some k → Fits k b
non_nil-beneath b k q v h = subst (λ j. HasKind j v) (sym (same-kinds b k q)) h

non_nil-refines : Refines non_nil
non_nil-refines = record { fits = non_nil-fits; beneath = non_nil-beneath; no_nil = refl }

-- a field of which more is known
module _ (n : List ℕ) (k : Kind) (fields : Fields) where
  abbrev Narrows : Type 0
  Narrows = (v : Value) → HasKind k v → StandsAt fields n (Some v)

  field-fits : Narrows → Fits (map (field n k true fields)) (map fields)
  field-fits narrows v (m, is, stand) = (m, is, λ key. here key (bytes_eq n key) refl (stand key))
    where
      there : (key : List ℕ) → n ≡ key → (o : Option Value) → Found true (λ u. HasKind k u) o → StandsAt fields key o
      there key same (Some u) h = subst (λ i. StandsAt fields i (Some u)) same (narrows u h)
      there key same None h = absurd h

      here : (key : List ℕ) (b : Bool) → bytes_eq n key ≡ b → MatchBool b (Found true (λ u. HasKind k u) (find key m)) (StandsAt fields key (find key m)) → StandsAt fields key (find key m)
      here key true q h = there key ((bytes_eq-Decides n key).0 q) (find key m) h
      here key false q h = h

-- what stands where a name is looked up may stand there
at-narrows : (refine : Refinement) → Refines refine → (fields : Fields) (n : List ℕ) (k : Kind) → refine (at_name fields n) ≡ Some k → Narrows n k fields
at-narrows refine r no_others n k q v h = let wrong : None ≡ Some k = sym r.no_nil ∙ q in absurd (cc wrong)
at-narrows refine r (others kind) n k q v h = r.beneath kind k q v h
at-narrows refine r (field key kind required rest) n k q v h = here (at-narrows refine r rest n k) (bytes_eq key n) q
  where
    entry : (b : Bool) → refine (cond b kind (nilable kind)) ≡ Some k → HasKind kind v
    entry true p = r.fits kind k p v h
    entry false p = r.beneath kind k p v h

    here : (refine (at_name rest n) ≡ Some k → Narrows n k rest) → (b : Bool) → refine (cond b (cond required kind (nilable kind)) (at_name rest n)) ≡ Some k → MatchBool b (Found required (λ u. HasKind kind u) (Some v)) (StandsAt rest n (Some v))
    here below true p = entry required p
    here below false p = below p v h

present-narrows : (fields : Fields) (n : List ℕ) (k : Kind) → present_at fields n ≡ Some k → Narrows n k fields
present-narrows no_others n k q v h = absurd (cc q)
present-narrows (others kind) n k q v h = subst (λ j. HasKind j v) (sym (same-kinds kind k q)) h
present-narrows (field key kind required rest) n k q v h = here (present-narrows rest n k) (bytes_eq key n) q
  where
    here : (present_at rest n ≡ Some k → Narrows n k rest) → (b : Bool) → cond b (Some kind) (present_at rest n) ≡ Some k → MatchBool b (Found required (λ u. HasKind kind u) (Some v)) (StandsAt rest n (Some v))
    here below true p = subst (λ j. HasKind j v) (sym (same-kinds kind k p)) h
    here below false p = below p v h

-- a map of which a field is refined
module _ (n : List ℕ) (refine : Refinement) (r : Refines refine) where
  in_field-fits : (a k : Kind) → in_field n refine a ≡ Some k → Fits k a
  in_field-fits (map fields) k q =
      let (j, is, same) = mapped-some (λ i. map (field n i true fields)) (refine (at_name fields n)) k q in
      subst (λ i. Fits i (map fields)) same (field-fits n j fields (at-narrows refine r fields n j is))
  in_field-fits (nilable a) k q = λ v h. inr (in_field-fits a k q v h)
  in_field-fits a k q = absurd (cc q)

  in_field-refines : Refines (in_field n refine)
  in_field-refines = record { fits = in_field-fits; beneath = in_field-fits; no_nil = refl }

in_part-fits : (o : Option (List ℕ)) (refine : Refinement) → Refines refine → Refines (in_part o refine)
in_part-fits (Some n) refine r = in_field-refines n refine r
in_part-fits None refine r = record { fits = λ a k q. absurd (cc q); beneath = λ b k q. absurd (cc q); no_nil = refl }

knowing-fits : (n : List ℕ) (a k : Kind) → knowing_name n a ≡ Some k → Fits k a
knowing-fits n (map fields) k q =
    let (j, is, same) = mapped-some (λ i. map (field n i true fields)) (present_at fields n) k q in
    subst (λ i. Fits i (map fields)) same (field-fits n j fields (present-narrows fields n j is))
knowing-fits n a k q = absurd (cc q)

knowing-refines : (n : List ℕ) → Refines (knowing_name n)
knowing-refines n = record { fits = knowing-fits n; beneath = λ b k q. absurd (cc q); no_nil = refl }

-- a name with a value isn't one without
given-stands : (fs : Fields) (n : List ℕ) (k : Kind) → given_at fs n ≡ Some k → is_absent fs n ≡ true → ⊥
given-stands no_others n k q a = cc q
given-stands (others kind) n k q a = cc q
given-stands (field key kind required rest) n k q a = here (given-stands rest n k) (bytes_eq key n) q a
  where
    here : (given_at rest n ≡ Some k → is_absent rest n ≡ true → ⊥) → (b : Bool) → cond b (cond required (Some kind) None) (given_at rest n) ≡ Some k → cond b false (is_absent rest n) ≡ true → ⊥
    here below true p i = cc i
    here below false p i = below p i

-- the scope where more is known of one name
module _ (known s : Scope) (keeps : Upholds known s) where
  module _ (key : List ℕ) (j k : Kind) (at : given_at s.names key ≡ Some j) (fits : Fits k j) where
    bound-given : (n : List ℕ) (wanted : Kind) → given_at known.names n ≡ Some wanted → (b : Bool) → bytes_eq key n ≡ b → (i : Kind) × (cond b (Some k) (given_at s.names n) ≡ Some i) × Fits i wanted
    bound-given n wanted q true p =
        let same : key ≡ n = (bytes_eq-Decides key n).0 p in
        let (i, is, fit) = keeps.given n wanted q in
        let one : i ≡ j = same-kinds i j (sym is ∙ subst (λ m. given_at s.names m ≡ Some j) same at) in
        (k, refl, λ v h. fit v (subst (λ x. HasKind x v) (sym one) (fits v h)))
    bound-given n wanted q false p = keeps.given n wanted q

    bound-absent : (n : List ℕ) → is_absent known.names n ≡ true → (b : Bool) → bytes_eq key n ≡ b → cond b false (is_absent s.names n) ≡ true
    bound-absent n q true p =
        let same : key ≡ n = (bytes_eq-Decides key n).0 p in
        absurd (given-stands s.names key j at (subst (λ m. is_absent s.names m ≡ true) (sym same) (keeps.absent n q)))
    bound-absent n q false p = keeps.absent n q

    bound-keeps : Upholds known (bind_kind key k s)
    bound-keeps = record {
      environment = keeps.environment;
      functions = keeps.functions;
      given = λ n wanted q. bound-given n wanted q (bytes_eq key n) refl;
      absent = λ n q. bound-absent n q (bytes_eq key n) refl;
    }

  -- a name that is bound in both
  pub bind-upholds : (key : List ℕ) (a k : Kind) → Fits a k → Upholds (bind_kind key k known) (bind_kind key a s)
  bind-upholds key a k fits = record {
    environment = keeps.environment;
    functions = keeps.functions;
    given = λ n wanted q. there n wanted (bytes_eq key n) q;
    absent = λ n q. absent n (bytes_eq key n) q;
  }
    where
      there : (n : List ℕ) (wanted : Kind) (b : Bool) → cond b (Some k) (given_at known.names n) ≡ Some wanted → (i : Kind) × (cond b (Some a) (given_at s.names n) ≡ Some i) × Fits i wanted
      there n wanted true q = (a, refl, λ v h. subst (λ j. HasKind j v) (same-kinds k wanted q) (fits v h))
      there n wanted false q = keeps.given n wanted q

      absent : (n : List ℕ) (b : Bool) → cond b false (is_absent known.names n) ≡ true → cond b false (is_absent s.names n) ≡ true
      absent n true q = absurd (cc q)
      absent n false q = keeps.absent n q

  refined-keeps : (key : List ℕ) (refine : Refinement) → Refines refine → Upholds known (bind_if key (refined refine (given_at s.names key)) s)
  refined-keeps key refine r = here (given_at s.names key) refl
    where
      inside : (j : Kind) → given_at s.names key ≡ Some j → (o : Option Kind) → refine j ≡ o → Upholds known (bind_if key o s)
      inside j at (Some k) q = bound-keeps key j k at (r.fits j k q)
      inside j at None q = keeps

      here : (o : Option Kind) → given_at s.names key ≡ o → Upholds known (bind_if key (refined refine o) s)
      here (Some j) at = inside j at (refine j) refl
      here None at = keeps

  name-keeps : (key : List ℕ) (b : Bool) (refine : Refinement) → Refines refine → Upholds known (refining_name key b refine s)
  name-keeps key false refine r = refined-keeps key refine r
  name-keeps key true refine r = refined-keeps hash (in_field key refine) (in_field-refines key refine r)

  env-keeps : (b : Bool) (key : List ℕ) (refine : Refinement) → Refines refine → Upholds known (cond b s (refining_name key (is_absent s.names key) refine s))
  env-keeps true key refine r = keeps
  env-keeps false key refine r = name-keeps key (is_absent s.names key) refine r

  refining-keeps : (t : Term) (refine : Refinement) → Refines refine → Upholds known (refining t refine s)
  refining-keeps (name key) refine r = env-keeps (bytes_eq key (codes "$env")) key refine r
  refining-keeps (postfix (index (literal x) optional) t) refine r = refining-keeps t (in_part (string_of x) refine) (in_part-fits (string_of x) refine r)
  refining-keeps t refine r = keeps

  unlike_layer-keeps : (l : Value-F Value) (t : Term) → Upholds known (unlike_layer l t s)
  unlike_layer-keeps Value-F.Nil t = refining-keeps t non_nil non_nil-refines
  unlike_layer-keeps l t = keeps

  unlike-keeps : (l r : Term) → Upholds known (unlike l r s)
  unlike-keeps l (literal v) = unlike_layer-keeps (out-Value v) l
  unlike-keeps l r = keeps

  having_name-keeps : (o : Option (List ℕ)) (t : Term) → Upholds known (having_name t o s)
  having_name-keeps (Some n) t = refining-keeps t (knowing_name n) (knowing-refines n)
  having_name-keeps None t = keeps

  having-keeps : (l r : Term) → Upholds known (having l r s)
  having-keeps (literal v) r = having_name-keeps (string_of v) r
  having-keeps l r = keeps

pub assuming-keeps : (t : Term) (b : Bool) (known s : Scope) → Upholds known s → Upholds known (assuming t b s)
assuming-keeps (operation NotEqual l r) true known s keeps = unlike-keeps known s keeps l r
assuming-keeps (operation Equal l r) false known s keeps = unlike-keeps known s keeps l r
assuming-keeps (operation In l r) true known s keeps = having-keeps known s keeps l r
assuming-keeps (operation NotIn l r) false known s keeps = having-keeps known s keeps l r
assuming-keeps (operation And l r) true known s keeps = assuming-keeps r true known (assuming l true s) (assuming-keeps l true known s keeps)
assuming-keeps (operation Or l r) false known s keeps = assuming-keeps r false known (assuming l false s) (assuming-keeps l false known s keeps)
assuming-keeps (unary Not t) b known s keeps = assuming-keeps t (not b) known s keeps
assuming-keeps t b known s keeps = keeps

pub after-keeps : (st : Strictness) (l : Term) (known s : Scope) → Upholds known s → Upholds known (after st l s)
after-keeps Both l known s keeps = keeps
after-keeps EndsAtFalse l known s keeps = assuming-keeps l true known s keeps
after-keeps EndsAtTrue l known s keeps = assuming-keeps l false known s keeps
after-keeps Pattern l known s keeps = keeps
