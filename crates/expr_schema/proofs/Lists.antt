-- Facts about each item of a list.
use Rattle.std.proofs.Common.{◌≡◌, ℕ, zero, suc, ◌+◌, ◌<◌, ◌≤◌, Bool, true, false, cond, List, [], ◌∷◌, ◌++◌, length, take, get_or, slice_get, Some, refl, sym, subst, ap, ◌∙◌, arith}
use Rattle.std.proofs.lemmas.List.{take_more, take_all}
use Rattle.std.specs.Map.{lookup, values_of}
use Rattle.expr_schema.specs.Kinds.{Each}

module _ {X : Type 0} (P : X → Type 0) where
  pub Each-append : (xs ys : List X) → Each P xs → Each P ys → Each P (xs ++ ys)
  Each-append [] ys p q = q
  Each-append (x ∷ xs) ys p q = (p.0, Each-append xs ys p.1 q)

  -- one item more
  pub Each-more : (xs : List X) (i : ℕ) (x : X) → i < length xs → x ≡ get_or xs i x → Each P (take i xs) → P x → Each P (take (i + 1) xs)
  Each-more xs i x within at p q = subst (Each P) (ap (λ y. take i xs ++ y ∷ []) at ∙ sym (take_more xs i x within)) (Each-append (take i xs) (x ∷ []) p (q, tt))

  pub Each-done : (xs : List X) (i : ℕ) → length xs ≤ i → Each P (take i xs) → Each P xs
  Each-done xs i past p = subst (Each P) (take_all i xs past) p

  pub Each-at : (xs : List X) (i : ℕ) (x : X) → slice_get xs i ≡ Some x → Each P xs → P x
  Each-at [] i x e p = absurd (cc e)
  Each-at (y ∷ ys) zero x e p = let same : y ≡ x = cc e in subst P same p.0
  Each-at (y ∷ ys) (suc i) x e p = Each-at ys i x e p.1

  pub Each-index : (xs : List X) (i : ℕ) (x : X) → i < length xs → x ≡ get_or xs i x → Each P xs → P x
  Each-index [] i x within at p = absurd (omega (arith, within))
  Each-index (y ∷ ys) zero x within at p = subst P (sym at) p.0
  Each-index (y ∷ ys) (suc i) x within at p = Each-index ys i x (omega arith) at p.1

pub Each-weaker : {X : Type 0} (P Q : X → Type 0) → ((x : X) → P x → Q x) → (xs : List X) → Each P xs → Each Q xs
Each-weaker P Q f [] p = tt
Each-weaker P Q f (x ∷ xs) p = (f x p.0, Each-weaker P Q f xs p.1)

-- each value of a map is such
pub Each-values : {K V : Type 0} (P : V → Type 0) (m : List (K × V)) → Each P (values_of m) → Each (λ e. P e.1) m
Each-values P [] p = tt
Each-values P (e ∷ m) p = (p.0, Each-values P m p.1)

pub values-Each : {K V : Type 0} (P : V → Type 0) (m : List (K × V)) → Each (λ e. P e.1) m → Each P (values_of m)
values-Each P [] p = tt
values-Each P (e ∷ m) p = (p.0, values-Each P m p.1)

-- what a look-up finds is such, at a key that passes
pub lookup-Each : {K V : Type 0} (P : K × V → Type 0) (test : K → Bool) (m : List (K × V)) (v : V) → Each P m → lookup test m ≡ Some v → (k : K) × (test k ≡ true) × P (k, v)
lookup-Each P test [] v p e = absurd (cc e)
lookup-Each {K} {V} P test (a ∷ m) v p e = here (λ f. lookup-Each P test m v p.1 f) (test a.0) refl e
  where
    here : (lookup test m ≡ Some v → (k : K) × (test k ≡ true) × P (k, v)) → (b : Bool) → test a.0 ≡ b → cond b (Some a.1) (lookup test m) ≡ Some v → (k : K) × (test k ≡ true) × P (k, v)
    here below true q f = let same : a.1 ≡ v = cc f in (a.0, q, subst (λ w. P (a.0, w)) same p.0)
    here below false q f = below f
