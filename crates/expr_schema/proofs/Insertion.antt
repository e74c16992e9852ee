-- A field that is put among others.
use Rattle.std.proofs.Common.{◌≡◌, ◌↔◌, ℕ, zero, suc, Bool, true, false, cond, List, [], ◌∷◌, take, slice_get, Option, Some, None, option_map, Result, Ok, Err, OnOk, MatchBool, bytes_eq, refl, sym, subst, ap, ◌∙◌}
use Rattle.std.specs.List.{IsDistinct, AllByRecursion}
use Rattle.std.specs.Map.{lookup, keys_of}
use Rattle.indexmap.specs.IndexMap.{insert_entry}
use Rattle.expr_value.specs.Names.{find}
use Rattle.expr_value.specs.declared.value.Value.{Value}
use Rattle.expr_schema.specs.Kinds.{Found, HasKind, StandsAt, field}
use Rattle.expr_schema.specs.KindView.{fields_view, named_of, others_of, entry_view, kind_view}
use Rattle.expr_schema.specs.declared.kind.Fields as memory_fields
use Rattle.expr_schema.specs.declared.kind.Fields.{out-Fields}
use Rattle.expr_schema.specs.declared.kind.FieldKind.{FieldKind}
use Rattle.expr_schema.proofs.Standing.{bytes_eq-symm, by, find-entries, same_name}
use Rattle.std.proofs.lemmas.Slice.Eq.{bytes_eq-Decides}

module _ {V : Type 0} (key n : List ℕ) (v : V) where
  pub find-put : (m : List (List ℕ × V)) → lookup (bytes_eq n) (insert_entry bytes_eq m key v) ≡ cond (bytes_eq n key) (Some v) (lookup (bytes_eq n) m)
  find-put [] = refl
  find-put (e ∷ es) = here (find-put es) (bytes_eq key e.0) refl
    where
      twice : (b : Bool) → cond b (Some v) (lookup (bytes_eq n) es) ≡ cond b (Some v) (cond b (Some e.1) (lookup (bytes_eq n) es))
      twice true = refl
      twice false = refl

      swapped : (b c : Bool) → bytes_eq key e.0 ≡ false → bytes_eq n e.0 ≡ b → bytes_eq n key ≡ c
          → cond b (Some e.1) (cond c (Some v) (lookup (bytes_eq n) es)) ≡ cond c (Some v) (cond b (Some e.1) (lookup (bytes_eq n) es))
      swapped true true q f g =
          let same : key ≡ e.0 = sym (same_name n key g) ∙ same_name n e.0 f in
          let w : true ≡ false = sym ((bytes_eq-Decides key e.0).1 same) ∙ q in absurd (cc w)
      swapped true false q f g = refl
      swapped false true q f g = refl
      swapped false false q f g = refl

      here : lookup (bytes_eq n) (insert_entry bytes_eq es key v) ≡ cond (bytes_eq n key) (Some v) (lookup (bytes_eq n) es) → (b : Bool) → bytes_eq key e.0 ≡ b
          → lookup (bytes_eq n) (cond b ((e.0, v) ∷ es) (e ∷ insert_entry bytes_eq es key v)) ≡ cond (bytes_eq n key) (Some v) (cond (bytes_eq n e.0) (Some e.1) (lookup (bytes_eq n) es))
      here below true q =
          let same : key ≡ e.0 = same_name key e.0 q in
          subst (λ k. cond (bytes_eq n e.0) (Some v) (lookup (bytes_eq n) es) ≡ cond (bytes_eq n k) (Some v) (cond (bytes_eq n e.0) (Some e.1) (lookup (bytes_eq n) es))) (sym same) (twice (bytes_eq n e.0))
      here below false q = ap (λ o. cond (bytes_eq n e.0) (Some e.1) o) below ∙ swapped (bytes_eq n e.0) (bytes_eq n key) q refl refl

pub cond-map : {A B : Type 0} (f : A → B) (b : Bool) (g : A) (r : Option A) → option_map f (cond b (Some g) r) ≡ cond b (Some (f g)) (option_map f r)
cond-map f true g r = refl
cond-map f false g r = refl

pub on_ok : {T E : Type 0} (r : Result T E) (A B : Type 0) → (A → B) → OnOk r A → OnOk r B
on_ok (Ok x) A B f h = f h
on_ok (Err e) A B f h = h

-- what stands at a name once a field is put
module _ (old new : memory_fields.Fields) (key : List ℕ) (g : FieldKind) (named : (out-Fields new).named ≡ insert_entry bytes_eq (out-Fields old).named key g)
    (others : (out-Fields new).others ≡ (out-Fields old).others) (n : List ℕ) where
  found : find n (named_of new) ≡ cond (bytes_eq n key) (Some (entry_view g)) (find n (named_of old))
  found =
      find-entries n (out-Fields new).named ∙ ap (λ m. option_map entry_view (lookup (bytes_eq n) m)) named ∙ ap (option_map entry_view) (find-put key n g (out-Fields old).named)
      ∙ cond-map entry_view (bytes_eq n key) g (lookup (bytes_eq n) (out-Fields old).named) ∙ ap (cond (bytes_eq n key) (Some (entry_view g))) (sym (find-entries n (out-Fields old).named))

  pub put_stands : (x : Option Value) → StandsAt (fields_view new) n x ↔ StandsAt (field key (entry_view g).kind (entry_view g).required (fields_view old)) n x
  put_stands x = here (bytes_eq key n) (bytes_eq n key) refl (bytes_eq-symm key n)
    where
      here : (b c : Bool) → bytes_eq n key ≡ c → b ≡ c → StandsAt (fields_view new) n x ↔ MatchBool b (Found (entry_view g).required (λ v. HasKind (entry_view g).kind v) x) (StandsAt (fields_view old) n x)
      here true true e q = by new n (Some (entry_view g)) (others_of new) (found ∙ ap (λ b. cond b (Some (entry_view g)) (find n (named_of old))) e) refl x
      here false false e q =
          let after = by new n (find n (named_of old)) (others_of old) (found ∙ ap (λ b. cond b (Some (entry_view g)) (find n (named_of old))) e) (ap (option_map kind_view) others) x in
          let before = by old n (find n (named_of old)) (others_of old) refl refl x in
          (λ h. before.1 (after.0 h), λ h. after.1 (before.0 h))
      here true false e q = absurd (cc q)
      here false true e q = absurd (cc q)

-- a name that isn't among those before it
at_key : {V : Type 0} (P : List ℕ → Type 0) (es : List (List ℕ × V)) (i : ℕ) (k : List ℕ) (v : V) → AllByRecursion P (keys_of es) → slice_get es i ≡ Some (k, v) → P k
at_key P [] i k v p e = absurd (cc e)
at_key P (a ∷ es) zero k v p e = let same : a ≡ (k, v) = cc e in subst (λ b. P b.0) same p.0
at_key P (a ∷ es) (suc i) k v p e = at_key P es i k v p.1 e

pub fresh : {V : Type 0} (es : List (List ℕ × V)) (i : ℕ) (k : List ℕ) (v : V) → IsDistinct bytes_eq (keys_of es) → slice_get es i ≡ Some (k, v) → lookup (bytes_eq k) (take i es) ≡ None
unfolding IsDistinct
fresh [] i k v d e = absurd (cc e)
fresh (a ∷ es) zero k v d e = refl
fresh (a ∷ es) (suc i) k v d e = here (bytes_eq k a.0) (bytes_eq-symm k a.0 ∙ at_key (λ y. bytes_eq a.0 y ≡ false) es i k v d.0 e) (fresh es i k v d.1 e)
  where
    here : (b : Bool) → b ≡ false → lookup (bytes_eq k) (take i es) ≡ None → cond b (Some a.1) (lookup (bytes_eq k) (take i es)) ≡ None
    here true q p = absurd (cc q)
    here false q p = p
