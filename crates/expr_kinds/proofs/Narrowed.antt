-- Where a condition has a value, the scope that it tells holds.
use Rattle.std.proofs.Common.{◌≡◌, ℕ, Bool, true, false, not, cond, List, Option, Some, None, option_map, is_some, unwrap_or, Ok, Err, MatchBool, bytes_eq, codes, rules, refl, sym, ap, ◌∙◌, subst, inl, inr}
use Rattle.std.proofs.lemmas.Slice.Eq.{bytes_eq-Decides}
use Rattle.expr_arguments.specs.Parts.{index_answer, index_answer_layers}
use Rattle.expr_context.specs.Context.{ContextView, hash}
use Rattle.expr_context.specs.Lookups.{field_in, field_of, first_of_two, lookup_answer}
use Rattle.expr_error.specs.ErrorKind.{evaluation}
use Rattle.expr_functions.specs.declared.operator.Operator.{Operator}
use Rattle.expr_functions.specs.declared.operator.Operator.TheVariants.{And, Or, Equal, NotEqual, In, NotIn}
use Rattle.expr_functions.specs.declared.operator.UnaryOperator.TheVariants.{Not}
use Rattle.expr_functions.specs.declared.strictness.Strictness.{Strictness}
use Rattle.expr_functions.specs.declared.strictness.Strictness.TheVariants.{Both, EndsAtFalse, EndsAtTrue, Pattern}
use Rattle.expr_meaning.specs.Allows.{Allows, AndThenLayer, OrElseLayer}
use Rattle.expr_meaning.specs.Host.{Host}
use Rattle.expr_meaning.specs.World.{world_of}
use Rattle.expr_operators.specs.Operators.{are_compared, belongs, belongs_layers, operator_answer, truth, truth_layer, truth_or_refusal, unary_answer, unary_answer_layer, verdict}
use Rattle.expr_tree.specs.Term.{Term, name, literal, unary, operation, postfix, index}
use Rattle.expr_value.specs.Answers.{Answer, Then}
use Rattle.expr_value.specs.Names.{find}
use Rattle.expr_value.specs.Values.{equals, map_of, string_of}
use Rattle.expr_value.specs.declared.value.Value as value
use Rattle.expr_value.specs.declared.value.Value.{Value, out-Value, the_lemmas}
use Rattle.expr_value.specs.declared.value.Value.TheOpen.{Value-F}
use Rattle.expr_schema.specs.Kinds.{Kind, map, nilable, Fields, no_others, others, field, HasKind, StandsAt, Found}
use Rattle.expr_kinds.specs.Narrowing.{Refinement, after, assuming, bind_if, having, having_name, in_field, in_part, non_nil, present_at, refined, refining, refining_name, unlike, unlike_layer, knowing_name}
use Rattle.expr_schema.specs.Scopes.{Scope, Conforms}
use Rattle.expr_kinds.specs.Scopes.{Hosts, at_name, bind_kind, given_at, is_absent}
use Rattle.expr_kinds.proofs.Answered.{then-value}
use Rattle.expr_kinds.proofs.Binding.{Hosts-bind}
use Rattle.expr_kinds.proofs.Layers.{Layer, map-layer, nil-layer, out-bool}
use Rattle.expr_kinds.proofs.Operating.{Continues}
use Rattle.expr_kinds.proofs.Standing.{absent-stands, at_name-stands, given-stands}

-- two results are one
abbrev Same : Answer → Answer → Type 0
Same a b = a ≡ b

nil-equals-nil : equals value.Nil value.Nil ≡ true
nil-equals-nil = search (rules, the_lemmas)

nil-compares-nil : are_compared value.Nil value.Nil ≡ true
nil-compares-nil = search (rules, the_lemmas)

nil-of-layer : (v : Value) → out-Value v ≡ Value-F.Nil → v ≡ value.Nil
nil-of-layer v p = search (rules, the_lemmas, p)

text-of-layer : (v : Value) (s : List ℕ) → out-Value v ≡ Value-F.String s → v ≡ value.String s
text-of-layer v s p = search (rules, the_lemmas, p)

-- what is known of a value, and what a refinement makes of it
abbrev Sound : (Value → Type 0) → Refinement → Type 0
Sound P refine = (a k : Kind) → refine a ≡ Some k → (v : Value) → HasKind a v → P v → HasKind k v

abbrev IsOther : Value → Type 0
IsOther v = v ≡ value.Nil → ⊥

non_nil-sound : Sound IsOther non_nil
non_nil-sound (nilable a) k q v h other = let same : a ≡ k = cc q in subst (λ j. HasKind j v) same (chosen h)
  where
    chosen : HasKind (nilable a) v → HasKind a v
    chosen (inl i) = absurd (other i)
    chosen (inr i) = i
non_nil-sound a k q v h other = absurd (cc q)

-- a field that is there
entry-there : (fields : Fields) (n : List ℕ) (j : Kind) (m : List (List ℕ × Value)) (u : Value) → find n m ≡ Some u → HasKind j u → ((key : List ℕ) → StandsAt fields key (find key m)) → (key : List ℕ) → StandsAt (field n j true fields) key (find key m)
entry-there fields n j m u is h at key = by_name (bytes_eq n key) refl
  where
    by_name : (b : Bool) → bytes_eq n key ≡ b → MatchBool b (Found true (λ v. HasKind j v) (find key m)) (StandsAt fields key (find key m))
    by_name false p = at key
    by_name true p =
        let same : n ≡ key = (bytes_eq-Decides n key).0 p in
        subst (λ o. Found true (λ v. HasKind j v) o) (sym (ap (λ q. find q m) (sym same) ∙ is)) h

mapped-some : {A B : Type 0} (f : A → B) (o : Option A) (b : B) → option_map f o ≡ Some b → (a : A) × (o ≡ Some a) × (f a ≡ b)
mapped-some f None b q = absurd (cc q)
mapped-some f (Some a) b q = let is : f a ≡ b = cc q in (a, refl, is)

-- the map that a value is, and the string
abbrev map-in : Layer → Option (List (List ℕ × Value))
map-in l = elim l [ Value-F.Map m ↦ Some m | _ ↦ None ]

abbrev text-in : Layer → Option (List ℕ)
text-in l = elim l [ Value-F.String s ↦ Some s | _ ↦ None ]

text-of : (v : Value) (n : List ℕ) → string_of v ≡ Some n → v ≡ value.String n
text-of v n q = by_layer (out-Value v) refl q
  where
    by_layer : (l : Layer) → out-Value v ≡ l → text-in l ≡ Some n → v ≡ value.String n
    by_layer (Value-F.String s) p r = let same : s ≡ n = cc r in text-of-layer v n (p ∙ ap (λ t. Value-F.String t) same)
    by_layer l p r = absurd (cc r)

-- what the part of a value at a key has
module _ (P : Value → Type 0) (apart : (w : Value) → P w → IsOther w) (refine : Refinement) (sound : Sound P refine) (optional : Bool) where
  abbrev Part : Value → Value → Type 0
  Part key v = (w : Value) × (Ok w ≡ index_answer v key optional) × P w

  -- nil has no parts
  of-nil : (key v : Value) → v ≡ value.Nil → Part key v → ⊥
  of-nil key v is (w, q, p) = by_option optional (q ∙ ap (λ l. index_answer_layers l key (out-Value key) optional) (nil-layer v is))
    where
      by_option : (b : Bool) → Same (Ok w) (cond b (Ok value.Nil) (Err evaluation)) → ⊥
      by_option true r = let same : w ≡ value.Nil = cc r in apart w p same
      by_option false r = absurd (cc r)

  module _ (n : List ℕ) where
    text-layer : out-Value (value.String n) ≡ Value-F.String n
    text-layer = search (rules, the_lemmas)

    in_map : (fields : Fields) (k : Kind) → in_field n refine (map fields) ≡ Some k → (v : Value) → HasKind (map fields) v → Part (value.String n) v → HasKind k v
    in_map fields k q v (m, mq, at) (w, is, p) =
        let j = mapped-some (λ i. map (field n i true fields)) (refine (at_name fields n)) k q in
        subst (λ i. HasKind i v) j.2 (m, mq, there j.0 j.1 (find n m) refl (is ∙ (λ i. index_answer_layers (map-layer m v mq i) (value.String n) (text-layer i) optional)))
      where
        there : (j : Kind) → refine (at_name fields n) ≡ Some j → (o : Option Value) → find n m ≡ o → Same (Ok w) (Ok (unwrap_or o value.Nil)) → (key : List ℕ) → StandsAt (field n j true fields) key (find key m)
        there j r None found s = let same : w ≡ value.Nil = cc s in absurd (apart w p same)
        there j r (Some u) found s =
            let same : w ≡ u = cc s in
            entry-there fields n j m u found (subst (λ x. HasKind j x) same (sound (at_name fields n) j r w (subst (λ x. HasKind (at_name fields n) x) (sym same) (at_name-stands fields n (Some u) (subst (λ o. StandsAt fields n o) found (at n)))) p)) at

    in_field-sound : Sound (Part (value.String n)) (in_field n refine)
    in_field-sound (map fields) k q v h part = in_map fields k q v h part
    in_field-sound (nilable a) k q v (inl is) part = absurd (of-nil (value.String n) v is part)
    in_field-sound (nilable a) k q v (inr h) part = in_field-sound a k q v h part
    in_field-sound a k q v h part = absurd (cc q)

  in_part-sound : (key : Value) (o : Option (List ℕ)) → string_of key ≡ o → Sound (Part key) (in_part o refine)
  in_part-sound key (Some n) q a k r v h part = in_field-sound n a k r v h (subst (λ x. Part x v) (text-of key n q) part)
  in_part-sound key None q a k r v h part = absurd (cc r)

-- a map that has a name
present-stands : (fields : Fields) (n : List ℕ) (j : Kind) → present_at fields n ≡ Some j → (u : Value) → StandsAt fields n (Some u) → HasKind j u
present-stands no_others n j q u p = absurd (cc q)
present-stands (others kind) n j q u p = let same : kind ≡ j = cc q in subst (λ i. HasKind i u) same p
present-stands (field key kind required rest) n j q u p = here (λ h s. present-stands rest n j h u s) (bytes_eq key n) q p
  where
    here : (present_at rest n ≡ Some j → StandsAt rest n (Some u) → HasKind j u) → (b : Bool) → cond b (Some kind) (present_at rest n) ≡ Some j → MatchBool b (Found required (λ v. HasKind kind v) (Some u)) (StandsAt rest n (Some u)) → HasKind j u
    here below true h s = let same : kind ≡ j = cc h in subst (λ i. HasKind i u) same s
    here below false h s = below h s

abbrev HasName : List ℕ → Value → Type 0
HasName n v = belongs (value.String n) v ≡ Some true

knowing_name-sound : (n : List ℕ) → Sound (HasName n) (knowing_name n)
knowing_name-sound n (map fields) k q v (m, mq, at) has =
    let j = mapped-some (λ i. map (field n i true fields)) (present_at fields n) k q in
    subst (λ i. HasKind i v) j.2 (m, mq, there j.0 j.1 (find n m) refl (sym (λ i. belongs_layers (value.String n) (text-layer i) (map-layer m v mq i)) ∙ has))
  where
    text-layer : out-Value (value.String n) ≡ Value-F.String n
    text-layer = search (rules, the_lemmas)

    there : (j : Kind) → present_at fields n ≡ Some j → (o : Option Value) → find n m ≡ o → Some (is_some o) ≡ Some true → (key : List ℕ) → StandsAt (field n j true fields) key (find key m)
    there j r None found s = let wrong : false ≡ true = cc s in absurd (cc wrong)
    there j r (Some u) found s = entry-there fields n j m u found (present-stands fields n j r u (subst (λ o. StandsAt fields n o) found (at n))) at
knowing_name-sound n a k q v h has = absurd (cc q)

has-other : (n : List ℕ) (v : Value) → HasName n v → IsOther v
has-other n v has is = by_layer (out-Value (value.String n)) (sym (ap (λ l. belongs_layers (value.String n) (out-Value (value.String n)) l) (nil-layer v is)) ∙ has)
  where
    by_layer : (l : Layer) → belongs_layers (value.String n) l Value-F.Nil ≡ Some true → ⊥
    by_layer (Value-F.String s) r = absurd (cc r)
    by_layer l r = absurd (cc r)

-- the same of a field that a name stands for
module _ (P : Value → Type 0) (apart : (w : Value) → P w → IsOther w) (refine : Refinement) (sound : Sound P refine) (key : List ℕ) where
  abbrev FieldIs : Value → Type 0
  FieldIs v = (w : Value) × (field_in (map_of v) key ≡ Some w) × P w

  no-field : (v : Value) → v ≡ value.Nil → FieldIs v → ⊥
  no-field v is (w, q, p) = by_nil (sym (ap (λ l. field_in (map-in l) key) (nil-layer v is)) ∙ q)
    where
      by_nil : None ≡ Some w → ⊥
      by_nil r = absurd (cc r)

  field-sound : Sound FieldIs (in_field key refine)
  field-sound (map fields) k q v (m, mq, at) (w, is, p) =
      let found : find key m ≡ Some w = sym (ap (λ l. field_in (map-in l) key) (map-layer m v mq)) ∙ is in
      let j = mapped-some (λ i. map (field key i true fields)) (refine (at_name fields key)) k q in
      subst (λ i. HasKind i v) j.2
      (m, mq, entry-there fields key j.0 m w found (sound (at_name fields key) j.0 j.1 w (at_name-stands fields key (Some w) (subst (λ o. StandsAt fields key o) found (at key))) p) at)
  field-sound (nilable a) k q v (inl is) part = absurd (no-field v is part)
  field-sound (nilable a) k q v (inr h) part = field-sound a k q v h part
  field-sound a k q v h part = absurd (cc q)

-- the value of a name other than `$env`
module _ (ctx : ContextView) (key : List ℕ) (w : Value) (apart : bytes_eq key (codes "$env") ≡ false) (looked : Ok w ≡ lookup_answer ctx key) where
  as-two : Ok w ≡ first_of_two (ctx.value_of key) (field_of (ctx.value_of hash) key)
  as-two = looked ∙ ap (λ b. cond b (Ok (value.Map ctx.map)) (first_of_two (ctx.value_of key) (field_of (ctx.value_of hash) key))) apart

  own-value : (v : Value) → ctx.value_of key ≡ Some v → w ≡ v
  own-value v q = let same : Same (Ok w) (Ok v) = as-two ∙ ap (λ o. first_of_two o (field_of (ctx.value_of hash) key)) q in cc same

  item-field : ctx.value_of key ≡ None → (v : Value) → ctx.value_of hash ≡ Some v → field_in (map_of v) key ≡ Some w
  item-field none v q = by_field (field_in (map_of v) key) (as-two ∙ ap (λ o. first_of_two o (field_of (ctx.value_of hash) key)) none ∙ ap (λ o. first_of_two None (field_of o key)) q)
    where
      by_field : (o : Option Value) → Ok w ≡ first_of_two None o → o ≡ Some w
      by_field (Some u) r = let same : Same (Ok w) (Ok u) = r in ap Some (let back : u ≡ w = cc same in back)
      by_field None r = absurd (cc r)

-- nil compared with nil
equal-nils : operator_answer Equal value.Nil value.Nil ≡ Ok (value.Bool true)
unfolding operator_answer verdict
equal-nils = ap (λ b. truth_or_refusal (cond b (Some (equals value.Nil value.Nil)) None)) nil-compares-nil ∙ ap (λ b. truth_or_refusal (Some b)) nil-equals-nil

unequal-nils : operator_answer NotEqual value.Nil value.Nil ≡ Ok (value.Bool false)
unfolding operator_answer verdict
unequal-nils = ap (λ b. truth_or_refusal (option_map not (cond b (Some (equals value.Nil value.Nil)) None))) nil-compares-nil ∙ ap (λ b. truth_or_refusal (Some (not b))) nil-equals-nil

-- two booleans that are one value
same-bool : (a : Value) (b d : Bool) → out-Value a ≡ Value-F.Bool b → Same (Ok a) (Ok (value.Bool d)) → b ≡ d
same-bool a b d p q =
    let one : a ≡ value.Bool d = cc q in
    let two : Value-F.Bool b ≡ Value-F.Bool d = sym p ∙ ap out-Value one ∙ out-bool d in cc two

-- a membership that is true
belongs-true : (a : Value) (o : Option Bool) → out-Value a ≡ Value-F.Bool true → Ok a ≡ truth_or_refusal o → o ≡ Some true
belongs-true a None p q = absurd (cc q)
belongs-true a (Some b) p q = ap Some (sym (same-bool a true b p q))

not-false : (a : Value) (o : Option Bool) → out-Value a ≡ Value-F.Bool false → Ok a ≡ truth_or_refusal (option_map not o) → o ≡ Some true
not-false a None p q = absurd (cc q)
not-false a (Some true) p q = refl
not-false a (Some false) p q = let w : false ≡ true = same-bool a false true p q in absurd (cc w)

in-true : (a x y : Value) → out-Value a ≡ Value-F.Bool true → Ok a ≡ operator_answer In x y → belongs x y ≡ Some true
unfolding operator_answer verdict
in-true a x y p q = belongs-true a (belongs x y) p q

not_in-false : (a x y : Value) → out-Value a ≡ Value-F.Bool false → Ok a ≡ operator_answer NotIn x y → belongs x y ≡ Some true
unfolding operator_answer verdict
not_in-false a x y p q = not-false a (belongs x y) p q

module _ (host : Host) (ctx : ContextView) where
  -- the scope with another kind at a name
  bind-known : (key : List ℕ) (k : Kind) (s : Scope) → Conforms s ctx → (v : Value) → ctx.value_of key ≡ Some v → HasKind k v → Conforms (bind_kind key k s) ctx
  bind-known key k s c v is h = record { environment = c.environment; names = λ n. by_name n (bytes_eq key n) refl }
    where
      by_name : (n : List ℕ) (b : Bool) → bytes_eq key n ≡ b → MatchBool b (Found true (λ w. HasKind k w) (ctx.value_of n)) (StandsAt s.names n (ctx.value_of n))
      by_name n false p = c.names n
      by_name n true p = let same : key ≡ n = (bytes_eq-Decides key n).0 p in subst (λ o. Found true (λ w. HasKind k w) o) (sym (ap ctx.value_of (sym same) ∙ is)) h

  refined-conforms : (P : Value → Type 0) (refine : Refinement) → Sound P refine → (key : List ℕ) (s : Scope) → Conforms s ctx → ((v : Value) → ctx.value_of key ≡ Some v → P v)
      → (o : Option Kind) → given_at s.names key ≡ o → (r : Option Kind) → refined refine o ≡ r → Conforms (bind_if key r s) ctx
  refined-conforms P refine sound key s c holds None q r rq = let none : r ≡ None = sym rq in subst (λ x. Conforms (bind_if key x s) ctx) (sym none) c
  refined-conforms P refine sound key s c holds (Some a) q None rq = c
  refined-conforms P refine sound key s c holds (Some a) q (Some k) rq =
      let v = given-stands s.names key a q (ctx.value_of key) (c.names key) in
      bind-known key k s c v.0 v.1 (sound a k rq v.0 v.2 (holds v.0 v.1))

  module _ (P : Value → Type 0) (refine : Refinement) (sound : Sound P refine) (apart : (w : Value) → P w → IsOther w) (key : List ℕ) (s : Scope) (c : Conforms s ctx) (w : Value) (p : P w)
      (other : bytes_eq key (codes "$env") ≡ false) (looked : Ok w ≡ lookup_answer ctx key) where
    name-conforms : (b : Bool) → is_absent s.names key ≡ b → Conforms (refining_name key b refine s) ctx
    name-conforms false q =
        refined-conforms P refine sound key s c (λ v at. subst P (own-value ctx key w other looked v at) p) (given_at s.names key) refl (refined refine (given_at s.names key)) refl
    name-conforms true q =
        let none = absent-stands s.names key q (ctx.value_of key) (c.names key) in
        refined-conforms (FieldIs P apart refine sound key) (in_field key refine) (field-sound P apart refine sound key) hash s c (λ v at. (w, item-field ctx key w other looked none v at, p)) (given_at s.names hash) refl
        (refined (in_field key refine) (given_at s.names hash)) refl

  refining-conforms : (t : Term) (P : Value → Type 0) (refine : Refinement) → Sound P refine → ((w : Value) → P w → IsOther w) → (s : Scope) → Conforms s ctx → (w : Value) → Allows (world_of host ctx) t (Ok w) → P w → Conforms (refining t refine s) ctx
  refining-conforms (name key) P refine sound apart s c w allowed p = by_env (bytes_eq key (codes "$env")) refl
    where
      by_env : (b : Bool) → bytes_eq key (codes "$env") ≡ b → Conforms (cond b s (refining_name key (is_absent s.names key) refine s)) ctx
      by_env true q = c
      by_env false q = name-conforms P refine sound apart key s c w p q allowed (is_absent s.names key) refl
  refining-conforms (postfix (index (literal x) optional) t) P refine sound apart s c w allowed p =
      let v = then-value (Allows (world_of host ctx) t) (λ u. Then (λ a. a ≡ Ok x) (λ key a. a ≡ index_answer u key optional)) w allowed in
      let key = then-value (λ a. a ≡ Ok x) (λ key a. a ≡ index_answer v.0 key optional) w v.2 in
      let same : key.0 ≡ x = cc key.1 in
      refining-conforms t (Part P apart refine sound optional x) (in_part (string_of x) refine) (in_part-sound P apart refine sound optional x (string_of x) refl) (λ u part is. of-nil P apart refine sound optional x u is part) s c v.0 v.1
      (w, key.2 ∙ ap (λ y. index_answer v.0 y optional) same, p)
  refining-conforms t P refine sound apart s c w allowed p = c

  -- the values of two sides of which the right or the left is a literal
  unlike-conforms : (op : Operator) (s : Scope) → Conforms s ctx → (a : Value) → (Ok a ≡ operator_answer op value.Nil value.Nil → ⊥) → (l r : Term)
      → Then (Allows (world_of host ctx) l) (λ x. Then (Allows (world_of host ctx) r) (λ y b. b ≡ operator_answer op x y)) (Ok a) → Conforms (unlike l r s) ctx
  unlike-conforms op s c a wrong l (literal v) h =
      let x = then-value (Allows (world_of host ctx) l) (λ x. Then (λ b. b ≡ Ok v) (λ y b. b ≡ operator_answer op x y)) a h in
      let y = then-value (λ b. b ≡ Ok v) (λ y b. b ≡ operator_answer op x.0 y) a x.2 in
      let lit : y.0 ≡ v = cc y.1 in
      by_layer x.0 x.1 (y.2 ∙ ap (λ u. operator_answer op x.0 u) lit) (out-Value v) refl
    where
      by_layer : (x : Value) → Allows (world_of host ctx) l (Ok x) → Ok a ≡ operator_answer op x v → (layer : Layer) → out-Value v ≡ layer → Conforms (unlike_layer layer l s) ctx
      by_layer x at is Value-F.Nil q =
          refining-conforms l IsOther non_nil non_nil-sound (λ w other. other) s c x at (λ x_nil. wrong (is ∙ (λ i. operator_answer op (x_nil i) (nil-of-layer v q i))))
      by_layer x at is layer q = c
  unlike-conforms op s c a wrong l r h = c

  having-conforms : (op : Operator) (s : Scope) → Conforms s ctx → (a : Value) → ((x y : Value) → Ok a ≡ operator_answer op x y → belongs x y ≡ Some true) → (l r : Term)
      → Then (Allows (world_of host ctx) l) (λ x. Then (Allows (world_of host ctx) r) (λ y b. b ≡ operator_answer op x y)) (Ok a) → Conforms (having l r s) ctx
  having-conforms op s c a tells (literal v) r h =
      let x = then-value (λ b. b ≡ Ok v) (λ x. Then (Allows (world_of host ctx) r) (λ y b. b ≡ operator_answer op x y)) a h in
      let y = then-value (Allows (world_of host ctx) r) (λ y b. b ≡ operator_answer op x.0 y) a x.2 in
      let lit : x.0 ≡ v = cc x.1 in
      by_text y.0 y.1 (subst (λ u. belongs u y.0 ≡ Some true) lit (tells x.0 y.0 y.2)) (string_of v) refl
    where
      by_text : (y : Value) → Allows (world_of host ctx) r (Ok y) → belongs v y ≡ Some true → (o : Option (List ℕ)) → string_of v ≡ o → Conforms (having_name r o s) ctx
      by_text y at has None q = c
      by_text y at has (Some n) q =
          refining-conforms r (HasName n) (knowing_name n) (knowing_name-sound n) (has-other n) s c y at (subst (λ u. belongs u y ≡ Some true) (text-of v n q) has)
  having-conforms op s c a tells l r h = c

  -- both sides of `and` are true where it is, and both of `or` false where it is
  and-true : (r : Answer → Type 0) (a : Value) → out-Value a ≡ Value-F.Bool true → (l : Layer) → AndThenLayer l r (Ok a) → (l ≡ Value-F.Bool true) × ((y : Value) × r (Ok y) × (out-Value y ≡ Value-F.Bool true))
  and-true r a p (Value-F.Bool true) h =
      let y = then-value r (λ y b. b ≡ truth y) a h in
      (refl, (y.0, y.1, of_truth (out-Value y.0) y.2))
    where
      of_truth : (m : Layer) → Ok a ≡ truth_layer m → m ≡ Value-F.Bool true
      of_truth (Value-F.Bool d) q = ap (λ b. Value-F.Bool b) (sym (same-bool a true d p q))
      of_truth m q = absurd (cc q)
  and-true r a p (Value-F.Bool false) h = let w : true ≡ false = same-bool a true false p h in absurd (cc w)
  and-true r a p l h = absurd (cc h)

  or-false : (r : Answer → Type 0) (a : Value) → out-Value a ≡ Value-F.Bool false → (l : Layer) → OrElseLayer l r (Ok a) → (l ≡ Value-F.Bool false) × ((y : Value) × r (Ok y) × (out-Value y ≡ Value-F.Bool false))
  or-false r a p (Value-F.Bool false) h =
      let y = then-value r (λ y b. b ≡ truth y) a h in
      (refl, (y.0, y.1, of_truth (out-Value y.0) y.2))
    where
      of_truth : (m : Layer) → Ok a ≡ truth_layer m → m ≡ Value-F.Bool false
      of_truth (Value-F.Bool d) q = ap (λ b. Value-F.Bool b) (sym (same-bool a false d p q))
      of_truth m q = absurd (cc q)
  or-false r a p (Value-F.Bool true) h = let w : false ≡ true = same-bool a false true p h in absurd (cc w)
  or-false r a p l h = absurd (cc h)

  not-opposite : (a : Value) (b : Bool) → out-Value a ≡ Value-F.Bool b → (l : Layer) → Ok a ≡ unary_answer_layer Not l → l ≡ Value-F.Bool (not b)
  not-opposite a b p (Value-F.Bool d) q = ap (λ t. Value-F.Bool t) (twice d ∙ ap not (sym (same-bool a b (not d) p q)))
    where
      twice : (t : Bool) → t ≡ not (not t)
      twice true = refl
      twice false = refl
  not-opposite a b p l q = absurd (cc q)

  no-false : (a : Value) → out-Value a ≡ Value-F.Bool true → Ok a ≡ operator_answer NotEqual value.Nil value.Nil → ⊥
  no-false a p q = let w : true ≡ false = same-bool a true false p (q ∙ unequal-nils) in cc w

  no-true : (a : Value) → out-Value a ≡ Value-F.Bool false → Ok a ≡ operator_answer Equal value.Nil value.Nil → ⊥
  no-true a p q = let w : false ≡ true = same-bool a false true p (q ∙ equal-nils) in cc w

  -- where the condition has this value
  pub assuming-conforms : (t : Term) (b : Bool) (s : Scope) → Conforms s ctx → (a : Value) → out-Value a ≡ Value-F.Bool b → Allows (world_of host ctx) t (Ok a) → Conforms (assuming t b s) ctx
  assuming-conforms (operation NotEqual l r) true s c a p h = unlike-conforms NotEqual s c a (no-false a p) l r h
  assuming-conforms (operation Equal l r) false s c a p h = unlike-conforms Equal s c a (no-true a p) l r h
  assuming-conforms (operation In l r) true s c a p h = having-conforms In s c a (λ x y q. in-true a x y p q) l r h
  assuming-conforms (operation NotIn l r) false s c a p h = having-conforms NotIn s c a (λ x y q. not_in-false a x y p q) l r h
  assuming-conforms (operation And l r) true s c a p h =
      let x = then-value (Allows (world_of host ctx) l) (λ x. AndThenLayer (out-Value x) (Allows (world_of host ctx) r)) a h in
      let both = and-true (Allows (world_of host ctx) r) a p (out-Value x.0) x.2 in
      assuming-conforms r true (assuming l true s) (assuming-conforms l true s c x.0 both.0 x.1) both.1.0 both.1.2 both.1.1
  assuming-conforms (operation Or l r) false s c a p h =
      let x = then-value (Allows (world_of host ctx) l) (λ x. OrElseLayer (out-Value x) (Allows (world_of host ctx) r)) a h in
      let both = or-false (Allows (world_of host ctx) r) a p (out-Value x.0) x.2 in
      assuming-conforms r false (assuming l false s) (assuming-conforms l false s c x.0 both.0 x.1) both.1.0 both.1.2 both.1.1
  assuming-conforms (unary Not t) b s c a p h =
      let x = then-value (Allows (world_of host ctx) t) (λ v r. r ≡ unary_answer Not v) a h in
      assuming-conforms t (not b) s c x.0 (not-opposite a b p (out-Value x.0) x.2) x.1
  assuming-conforms t b s c a p h = c

  -- where an operator goes on to its right side
  pub after-conforms : (st : Strictness) (l : Term) (s : Scope) → Conforms s ctx → (x : Value) → Allows (world_of host ctx) l (Ok x) → Continues st x → Conforms (after st l s) ctx
  after-conforms Both l s c x h q = c
  after-conforms EndsAtFalse l s c x h q = assuming-conforms l true s c x q h
  after-conforms EndsAtTrue l s c x h q = assuming-conforms l false s c x q h
  after-conforms Pattern l s c x h q = c

-- the functions stay
module _ (host : Host) where
  bind_if-hosts : (key : List ℕ) (o : Option Kind) (s : Scope) → Hosts s host → Hosts (bind_if key o s) host
  bind_if-hosts key (Some k) s h = Hosts-bind k key s host h
  bind_if-hosts key None s h = h

  name-hosts : (key : List ℕ) (b : Bool) (refine : Refinement) (s : Scope) → Hosts s host → Hosts (refining_name key b refine s) host
  name-hosts key false refine s h = bind_if-hosts key (refined refine (given_at s.names key)) s h
  name-hosts key true refine s h = bind_if-hosts hash (refined (in_field key refine) (given_at s.names hash)) s h

  by_env-hosts : (b : Bool) (key : List ℕ) (refine : Refinement) (s : Scope) → Hosts s host → Hosts (cond b s (refining_name key (is_absent s.names key) refine s)) host
  by_env-hosts true key refine s h = h
  by_env-hosts false key refine s h = name-hosts key (is_absent s.names key) refine s h

  refining-hosts : (t : Term) (refine : Refinement) (s : Scope) → Hosts s host → Hosts (refining t refine s) host
  refining-hosts (name key) refine s h = by_env-hosts (bytes_eq key (codes "$env")) key refine s h
  refining-hosts (postfix (index (literal x) optional) t) refine s h = refining-hosts t (in_part (string_of x) refine) s h
  refining-hosts t refine s h = h

  unlike_layer-hosts : (l : Layer) (t : Term) (s : Scope) → Hosts s host → Hosts (unlike_layer l t s) host
  unlike_layer-hosts Value-F.Nil t s h = refining-hosts t non_nil s h
  unlike_layer-hosts l t s h = h

  unlike-hosts : (l r : Term) (s : Scope) → Hosts s host → Hosts (unlike l r s) host
  unlike-hosts l (literal v) s h = unlike_layer-hosts (out-Value v) l s h
  unlike-hosts l r s h = h

  having_name-hosts : (o : Option (List ℕ)) (t : Term) (s : Scope) → Hosts s host → Hosts (having_name t o s) host
  having_name-hosts (Some n) t s h = refining-hosts t (knowing_name n) s h
  having_name-hosts None t s h = h

  having-hosts : (l r : Term) (s : Scope) → Hosts s host → Hosts (having l r s) host
  having-hosts (literal v) r s h = having_name-hosts (string_of v) r s h
  having-hosts l r s h = h

  pub assuming-hosts : (t : Term) (b : Bool) (s : Scope) → Hosts s host → Hosts (assuming t b s) host
  assuming-hosts (operation NotEqual l r) true s h = unlike-hosts l r s h
  assuming-hosts (operation Equal l r) false s h = unlike-hosts l r s h
  assuming-hosts (operation In l r) true s h = having-hosts l r s h
  assuming-hosts (operation NotIn l r) false s h = having-hosts l r s h
  assuming-hosts (operation And l r) true s h = assuming-hosts r true (assuming l true s) (assuming-hosts l true s h)
  assuming-hosts (operation Or l r) false s h = assuming-hosts r false (assuming l false s) (assuming-hosts l false s h)
  assuming-hosts (unary Not t) b s h = assuming-hosts t (not b) s h
  assuming-hosts t b s h = h

  pub after-hosts : (st : Strictness) (l : Term) (s : Scope) → Hosts s host → Hosts (after st l s) host
  after-hosts Both l s h = h
  after-hosts EndsAtFalse l s h = assuming-hosts l true s h
  after-hosts EndsAtTrue l s h = assuming-hosts l false s h
  after-hosts Pattern l s h = h
