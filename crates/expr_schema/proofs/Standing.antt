-- What stands at a name, by a look-up of the name.
use Rattle.std.proofs.Common.{◌≡◌, ◌↔◌, ℕ, Bool, true, false, cond, IsTrue, List, [], ◌∷◌, map as each, Option, Some, None, option_map, MatchBool, bytes_eq, refl, sym, subst, ap, ◌∙◌, rules}
use Rattle.std.proofs.lemmas.Cmp.{nat_list_eq_equiv}
use Rattle.std.proofs.lemmas.Slice.Eq.{bytes_eq-Decides}
use Rattle.std.specs.Map.{lookup}
use Rattle.expr_value.specs.Names.{find}
use Rattle.expr_value.specs.declared.value.Value.{Value}
use Rattle.expr_schema.specs.Kinds.{Kind, Fields, Each, Found, HasKind, Present, StandsAt}
use Rattle.expr_schema.specs.KindView.{Entry, StandsBy, fields_from, fields_view, kind_view, named_of, others_of, entry_view}
use Rattle.expr_schema.specs.declared.kind.Kind as memory
use Rattle.expr_schema.specs.declared.kind.Kind.{the_lemmas}
use Rattle.expr_schema.specs.declared.kind.Fields as memory_fields
use Rattle.expr_schema.specs.declared.kind.Fields.{out-Fields}
use Rattle.expr_schema.specs.declared.kind.FieldKind.{FieldKind, out-FieldKind}
use Rattle.expr_schema.proofs.Lists.{lookup-Each}
use Rattle.expr_schema.proofs.Shapes.{fields_view-parts}

pub same_name : (a b : List ℕ) → bytes_eq a b ≡ true → a ≡ b
same_name a b e = (bytes_eq-Decides a b).0 e

pub bytes_eq-symm : (a b : List ℕ) → bytes_eq a b ≡ bytes_eq b a
bytes_eq-symm a b = nat_list_eq_equiv.symm a b

pub stands_at : (ps : List (List ℕ × Entry)) (o : Option Kind) (n : List ℕ) (x : Option Value) → StandsAt (fields_from ps o) n x → StandsBy (find n ps) o x
stands_at [] None n x h = h
stands_at [] (Some k) n x h = h
stands_at (p ∷ ps) o n x h = here (λ q. stands_at ps o n x q) (bytes_eq p.0 n) (bytes_eq n p.0) (bytes_eq-symm p.0 n) h
  where
    here : (StandsAt (fields_from ps o) n x → StandsBy (find n ps) o x) → (b c : Bool) → b ≡ c → MatchBool b (Found p.1.required (λ v. HasKind p.1.kind v) x) (StandsAt (fields_from ps o) n x) → StandsBy (cond c (Some p.1) (find n ps)) o x
    here below true true e q = q
    here below false false e q = below q
    here below true false e q = absurd (cc e)
    here below false true e q = absurd (cc e)

pub at_stands : (ps : List (List ℕ × Entry)) (o : Option Kind) (n : List ℕ) (x : Option Value) → StandsBy (find n ps) o x → StandsAt (fields_from ps o) n x
at_stands [] None n x h = h
at_stands [] (Some k) n x h = h
at_stands (p ∷ ps) o n x h = here (λ q. at_stands ps o n x q) (bytes_eq p.0 n) (bytes_eq n p.0) (bytes_eq-symm p.0 n) h
  where
    here : (StandsBy (find n ps) o x → StandsAt (fields_from ps o) n x) → (b c : Bool) → b ≡ c → StandsBy (cond c (Some p.1) (find n ps)) o x → MatchBool b (Found p.1.required (λ v. HasKind p.1.kind v) x) (StandsAt (fields_from ps o) n x)
    here below true true e q = q
    here below false false e q = below q
    here below true false e q = absurd (cc e)
    here below false true e q = absurd (cc e)

-- a look-up among fields in memory
abbrev pub entries : List (List ℕ × FieldKind) → List (List ℕ × Entry)
entries es = each (λ e. (e.0, entry_view e.1)) es

pub find-entries : (n : List ℕ) (es : List (List ℕ × FieldKind)) → find n (entries es) ≡ option_map entry_view (lookup (bytes_eq n) es)
find-entries n [] = refl
find-entries n (e ∷ es) = here (bytes_eq n e.0) (find-entries n es)
  where
    here : (b : Bool) → find n (entries es) ≡ option_map entry_view (lookup (bytes_eq n) es) → cond b (Some (entry_view e.1)) (find n (entries es)) ≡ option_map entry_view (cond b (Some e.1) (lookup (bytes_eq n) es))
    here true below = refl
    here false below = below

abbrev pub entry_in : FieldKind → Entry
entry_in g = record { kind = kind_view (out-FieldKind g).kind; required = (out-FieldKind g).required }

pub entry_view-parts : (g : FieldKind) → entry_view g ≡ entry_in g
entry_view-parts g = search (rules, the_lemmas)

module _ (f : memory_fields.Fields) (n : List ℕ) where
  abbrev pub At : Option FieldKind → Type 0
  At o = lookup (bytes_eq n) (out-Fields f).named ≡ o

  pub by : (r : Option Entry) (o : Option Kind) → find n (named_of f) ≡ r → others_of f ≡ o → (x : Option Value) → StandsAt (fields_view f) n x ↔ StandsBy r o x
  by r o e q x = (
    λ h. subst (λ s. StandsBy s o x) e (subst (λ p. StandsBy (find n (named_of f)) p x) q (stands_at (named_of f) (others_of f) n x (subst (λ s. StandsAt s n x) (fields_view-parts f) h))),
    λ h. subst (λ s. StandsAt s n x) (sym (fields_view-parts f)) (at_stands (named_of f) (others_of f) n x (subst (λ s. StandsBy s (others_of f) x) (sym e) (subst (λ p. StandsBy r p x) (sym q) h))),
  )

  pub entry_at : (g : FieldKind) → At (Some g) → (x : Option Value) → StandsAt (fields_view f) n x ↔ Found (out-FieldKind g).required (λ v. HasKind (kind_view (out-FieldKind g).kind) v) x
  entry_at g e x = by (Some (entry_in g)) (others_of f) (find-entries n (out-Fields f).named ∙ ap (option_map entry_view) e ∙ ap Some (entry_view-parts g)) refl x

  none_at : (o : Option Kind) → At None → others_of f ≡ o → (x : Option Value) → StandsAt (fields_view f) n x ↔ StandsBy None o x
  none_at o e q x = by None o (find-entries n (out-Fields f).named ∙ ap (option_map entry_view) e) q x

  pub others_at : At None → (k : memory.Kind) → (out-Fields f).others ≡ Some k → (x : Option Value) → StandsAt (fields_view f) n x ↔ Found false (λ v. HasKind (kind_view k) v) x
  others_at e k q x = none_at (Some (kind_view k)) e (ap (option_map kind_view) q) x

  pub nothing_at : At None → (out-Fields f).others ≡ None → (x : Option Value) → StandsAt (fields_view f) n x ↔ (x ≡ None)
  nothing_at e q x = none_at None e (ap (option_map kind_view) q) x

  -- nothing may stand at a name of which no field says otherwise
  pub unnamed : At None → StandsAt (fields_view f) n None
  unnamed e = here (out-Fields f).others refl
    where
      here : (o : Option memory.Kind) → (out-Fields f).others ≡ o → StandsAt (fields_view f) n None
      here (Some k) q = (others_at e k q None).1 tt
      here None q = (nothing_at e q None).1 refl

pub found_nothing : (b : Bool) (P : Value → Type 0) → Present b None → Found b P None
found_nothing true P h = h
found_nothing false P h = tt

pub present : (b : Bool) (x : Option Value) → (x ≡ None → ⊥) → Present b x
present true None h = h refl
present true (Some v) h = tt
present false x h = tt

pub present_false : (b : Bool) (x : Option Value) → b ≡ false → Present b x
present_false true x e = absurd (cc e)
present_false false x e = tt

module _ (f : memory_fields.Fields) (m : List (List ℕ × Value)) where
  -- the values of a map stand
  abbrev pub Standing : List ℕ × Value → Type 0
  Standing e = StandsAt (fields_view f) e.0 (Some e.1)

  pub values_stand : Each Standing m → (n : List ℕ) (v : Value) → find n m ≡ Some v → StandsAt (fields_view f) n (Some v)
  values_stand all n v e =
      let (k, q, h) = lookup-Each Standing (bytes_eq n) m v all e in
      subst (λ a. StandsAt (fields_view f) a (Some v)) (sym (same_name n k q)) h

  -- the names that are required have values
  abbrev pub Given : List ℕ × FieldKind → Type 0
  Given e = Present (out-FieldKind e.1).required (find e.0 m)

  pub required_stand : Each Given (out-Fields f).named → (n : List ℕ) → find n m ≡ None → StandsAt (fields_view f) n None
  required_stand all n e = here (lookup (bytes_eq n) (out-Fields f).named) refl
    where
      here : (r : Option FieldKind) → lookup (bytes_eq n) (out-Fields f).named ≡ r → StandsAt (fields_view f) n None
      here None q = unnamed f n q
      here (Some g) q =
          let (k, t, h) = lookup-Each Given (bytes_eq n) (out-Fields f).named g all q in
          let same : find k m ≡ None = ap (λ a. find a m) (sym (same_name n k t)) ∙ e in
          (entry_at f n g q None).1 (found_nothing (out-FieldKind g).required _ (subst (λ x. Present (out-FieldKind g).required x) same h))

-- what stands at each name of a map
module _ (F : Fields) (m : List (List ℕ × Value)) (b : Bool) where
  abbrev pub AllStand : Type 0
  AllStand = (n : List ℕ) → StandsAt F n (find n m)

  abbrev pub ValuesStand : Type 0
  ValuesStand = (n : List ℕ) (v : Value) → find n m ≡ Some v → StandsAt F n (Some v)

  abbrev pub MissingStand : Type 0
  MissingStand = (n : List ℕ) → find n m ≡ None → StandsAt F n None

  pub stand_both : ValuesStand → (IsTrue b ↔ MissingStand) → IsTrue b ↔ AllStand
  stand_both vs w = (λ t n. here n (find n m) refl (w.0 t), λ h. w.1 (λ n e. subst (λ x. StandsAt F n x) e (h n)))
    where
      here : (n : List ℕ) (x : Option Value) → find n m ≡ x → MissingStand → StandsAt F n (find n m)
      here n (Some v) e ms = subst (λ y. StandsAt F n y) (sym e) (vs n v e)
      here n None e ms = subst (λ y. StandsAt F n y) (sym e) (ms n e)

  pub stand_not : b ≡ false → (IsTrue b ↔ ValuesStand) → IsTrue b ↔ AllStand
  stand_not e w = (λ t. let q : true ≡ false = sym t ∙ e in absurd (cc q), λ h. w.1 (λ n v p. subst (λ x. StandsAt F n x) p (h n)))
