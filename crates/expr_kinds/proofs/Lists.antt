-- Facts about each item of a list.
use Rattle.std.proofs.Common.{◌≡◌, ℕ, zero, suc, Bool, true, false, cond, List, [], ◌∷◌, ◌++◌, map as mapped, reverse, take, drop, Option, Some, None, option_map, unwrap_or, IfSome, refl, inl, inr, ◌==◌, arith}
use Rattle.std.proofs.lemmas.Bool.Decides.{nat_tests}
use Rattle.std.specs.List.{cons_option, filter, filter_map, find as first_found, slice_get}
use Rattle.std.specs.Map.{lookup}
use mathlib.Core.List.{reverse_aux}
use Rattle.expr_value.specs.declared.value.Value as value
use Rattle.expr_value.specs.declared.value.Value.{Value}
use Rattle.expr_schema.specs.Kinds.{Kind, nilable, HasKind, Each}

module _ {X : Type 0} (P : X → Type 0) where
  pub Each-all : ((x : X) → P x) → (xs : List X) → Each P xs
  Each-all f [] = tt
  Each-all f (x ∷ xs) = (f x, Each-all f xs)

  pub Each-append : (xs ys : List X) → Each P xs → Each P ys → Each P (xs ++ ys)
  Each-append [] ys p q = q
  Each-append (x ∷ xs) ys p q = (p.0, Each-append xs ys p.1 q)

  pub Each-reverse : (xs : List X) → Each P xs → Each P (reverse xs)
  Each-reverse xs p = onto xs [] p tt
    where
      onto : (ys zs : List X) → Each P ys → Each P zs → Each P (reverse_aux ys zs)
      onto [] zs p q = q
      onto (y ∷ ys) zs p q = onto ys (y ∷ zs) p.1 (p.0, q)

  pub Each-filter : (test : X → Bool) (xs : List X) → Each P xs → Each P (filter test xs)
  Each-filter test [] p = tt
  Each-filter test (x ∷ xs) p = kept (test x) (Each-filter test xs p.1)
    where
      kept : (b : Bool) → Each P (filter test xs) → Each P (cond b (x ∷ filter test xs) (filter test xs))
      kept true q = (p.0, q)
      kept false q = q

  pub Each-take : (n : ℕ) (xs : List X) → Each P xs → Each P (take n xs)
  Each-take zero xs p = tt
  Each-take (suc n) [] p = tt
  Each-take (suc n) (x ∷ xs) p = (p.0, Each-take n xs p.1)

  pub Each-drop : (n : ℕ) (xs : List X) → Each P xs → Each P (drop n xs)
  Each-drop zero xs p = p
  Each-drop (suc n) [] p = tt
  Each-drop (suc n) (x ∷ xs) p = Each-drop n xs p.1

  pub Each-get : (xs : List X) (n : ℕ) → Each P xs → IfSome (slice_get xs n) P
  Each-get [] n p = tt
  Each-get (x ∷ xs) zero p = p.0
  Each-get (x ∷ xs) (suc n) p = Each-get xs n p.1

  pub Each-found : (test : X → Bool) (xs : List X) → Each P xs → IfSome (first_found test xs) P
  Each-found test [] p = tt
  Each-found test (x ∷ xs) p = here (test x) (Each-found test xs p.1)
    where
      here : (b : Bool) → IfSome (first_found test xs) P → IfSome (cond b (Some x) (first_found test xs)) P
      here true q = p.0
      here false q = q

pub Each-weaker : {X : Type 0} (P Q : X → Type 0) → ((x : X) → P x → Q x) → (xs : List X) → Each P xs → Each Q xs
Each-weaker P Q f [] p = tt
Each-weaker P Q f (x ∷ xs) p = (f x p.0, Each-weaker P Q f xs p.1)

pub Each-map : {X Y : Type 0} (P : Y → Type 0) (f : X → Y) (xs : List X) → Each (λ x. P (f x)) xs → Each P (mapped f xs)
Each-map P f [] p = tt
Each-map P f (x ∷ xs) p = (p.0, Each-map P f xs p.1)

pub IfSome-map : {X Y : Type 0} (P : Y → Type 0) (f : X → Y) (o : Option X) → IfSome o (λ x. P (f x)) → IfSome (option_map f o) P
IfSome-map P f (Some x) p = p
IfSome-map P f None p = tt

pub IfSome-all : {X : Type 0} (P : X → Type 0) (o : Option X) → ((x : X) → P x) → IfSome o P
IfSome-all P (Some x) f = f x
IfSome-all P None f = tt

pub Each-filter_map : {X Y : Type 0} (P : Y → Type 0) (f : X → Option Y) (xs : List X) → Each (λ x. IfSome (f x) P) xs → Each P (filter_map f xs)
Each-filter_map P f [] p = tt
Each-filter_map {Y = Y} P f (x ∷ xs) p = before (f x) p.0 (filter_map f xs) (Each-filter_map P f xs p.1)
  where
    before : (o : Option Y) → IfSome o P → (ys : List Y) → Each P ys → Each P (cons_option o ys)
    before None h ys q = q
    before (Some y) h ys q = (h, q)

pub suc-not-zero : (n : ℕ) → (suc n == 0) ≡ false
suc-not-zero n = grind (arith, nat_tests)

-- what is looked for may not be there
pub nil-or : (k : Kind) (o : Option Value) → IfSome o (λ v. HasKind k v) → HasKind (nilable k) (unwrap_or o value.Nil)
nil-or k (Some v) p = inr p
nil-or k None p = inl refl

pub lookup-each : {K : Type 0} (k : Kind) (test : K → Bool) (m : List (K × Value)) → Each (λ e. HasKind k e.1) m → IfSome (lookup test m) (λ v. HasKind k v)
lookup-each k test [] p = tt
lookup-each {K} k test (e ∷ m) p = here (test e.0) (lookup-each k test m p.1)
  where
    here : (b : Bool) → IfSome (lookup test m) (λ v. HasKind k v) → IfSome (cond b (Some e.1) (lookup test m)) (λ v. HasKind k v)
    here true q = p.0
    here false q = q
