-- What stands at a name.
use Rattle.std.proofs.Common.{◌≡◌, ℕ, Bool, true, false, cond, List, [], ◌∷◌, Option, Some, None, unwrap_or, MatchBool, bytes_eq, refl, sym, ap, ◌∙◌, subst, inl, inr}
use Rattle.std.proofs.lemmas.Slice.Eq.{bytes_eq-Decides}
use Rattle.expr_value.specs.Names.{find, put}
use Rattle.expr_value.specs.declared.value.Value as value
use Rattle.expr_value.specs.declared.value.Value.{Value}
use Rattle.expr_schema.specs.Kinds.{Kind, nilable, Fields, no_others, others, field, HasKind, StandsAt, Found}
use Rattle.expr_kinds.specs.Scopes.{at_name, given_at, is_absent}

-- what a scope or a kind of maps says of a name
required-stands : (b : Bool) (kind : Kind) (o : Option Value) → Found b (λ v. HasKind kind v) o → (k : Kind) → cond b (Some kind) None ≡ Some k → (v : Value) × (o ≡ Some v) × HasKind k v
required-stands true kind (Some v) p k q = let same : kind ≡ k = cc q in (v, refl, subst (λ j. HasKind j v) same p)
required-stands true kind None p k q = absurd p
required-stands false kind o p k q = absurd (cc q)

pub given-stands : (fs : Fields) (name : List ℕ) (k : Kind) → given_at fs name ≡ Some k → (o : Option Value) → StandsAt fs name o → (v : Value) × (o ≡ Some v) × HasKind k v
given-stands no_others name k q o p = absurd (cc q)
given-stands (others kind) name k q o p = absurd (cc q)
given-stands (field key kind required rest) name k q o p = here (λ h s. given-stands rest name k h o s) (bytes_eq key name) q p
  where
    here : (given_at rest name ≡ Some k → StandsAt rest name o → (v : Value) × (o ≡ Some v) × HasKind k v) → (b : Bool) → cond b (cond required (Some kind) None) (given_at rest name) ≡ Some k → MatchBool b (Found required (λ v. HasKind kind v) o) (StandsAt rest name o) → (v : Value) × (o ≡ Some v) × HasKind k v
    here below true h s = required-stands required kind o s k h
    here below false h s = below h s

pub absent-stands : (fs : Fields) (name : List ℕ) → is_absent fs name ≡ true → (o : Option Value) → StandsAt fs name o → o ≡ None
absent-stands no_others name q o p = p
absent-stands (others kind) name q o p = absurd (cc q)
absent-stands (field key kind required rest) name q o p = here (λ h s. absent-stands rest name h o s) (bytes_eq key name) q p
  where
    here : (is_absent rest name ≡ true → StandsAt rest name o → o ≡ None) → (b : Bool) → cond b false (is_absent rest name) ≡ true → MatchBool b (Found required (λ v. HasKind kind v) o) (StandsAt rest name o) → o ≡ None
    here below true h s = absurd (cc h)
    here below false h s = below h s

found-stands : (b : Bool) (kind : Kind) (o : Option Value) → Found b (λ v. HasKind kind v) o → HasKind (cond b kind (nilable kind)) (unwrap_or o value.Nil)
found-stands true kind (Some v) p = p
found-stands true kind None p = absurd p
found-stands false kind (Some v) p = inr p
found-stands false kind None p = inl refl

pub at_name-stands : (fs : Fields) (name : List ℕ) (o : Option Value) → StandsAt fs name o → HasKind (at_name fs name) (unwrap_or o value.Nil)
at_name-stands no_others name o p = subst (λ q. unwrap_or q value.Nil ≡ value.Nil) (sym p) refl
at_name-stands (others kind) name o p = found-stands false kind o p
at_name-stands (field key kind required rest) name o p = here (λ s. at_name-stands rest name o s) (bytes_eq key name) p
  where
    here : (StandsAt rest name o → HasKind (at_name rest name) (unwrap_or o value.Nil)) → (b : Bool) → MatchBool b (Found required (λ v. HasKind kind v) o) (StandsAt rest name o) → HasKind (cond b (cond required kind (nilable kind)) (at_name rest name)) (unwrap_or o value.Nil)
    here below true s = found-stands required kind o s
    here below false s = below s

-- another value at a name
pub at_override : (k : Kind) (v : Value) → HasKind k v → (b : Bool) (rest : Fields) (n : List ℕ) (o : Option Value) → StandsAt rest n o
    → MatchBool b (Found true (λ w. HasKind k w) (cond b (Some v) o)) (StandsAt rest n (cond b (Some v) o))
at_override k v h true rest n o p = h
at_override k v h false rest n o p = p

-- a pair that is put into a map
bytes_eq-symm : (a b : List ℕ) → bytes_eq a b ≡ bytes_eq b a
bytes_eq-symm a b = both (bytes_eq a b) (bytes_eq b a) refl refl
  where
    both : (p q : Bool) → bytes_eq a b ≡ p → bytes_eq b a ≡ q → p ≡ q
    both true true e f = refl
    both false false e f = refl
    both true false e f = let w : true ≡ false = sym ((bytes_eq-Decides b a).1 (sym ((bytes_eq-Decides a b).0 e))) ∙ f in absurd (cc w)
    both false true e f = let w : true ≡ false = sym ((bytes_eq-Decides a b).1 (sym ((bytes_eq-Decides b a).0 f))) ∙ e in absurd (cc w)

pub find-put : (key n : List ℕ) (v : Value) (m : List (List ℕ × Value)) → find n (put key v m) ≡ cond (bytes_eq n key) (Some v) (find n m)
find-put key n v [] = refl
find-put key n v (e ∷ es) = here (find-put key n v es) (bytes_eq key e.0) refl
  where
    here : find n (put key v es) ≡ cond (bytes_eq n key) (Some v) (find n es) → (b : Bool) → bytes_eq key e.0 ≡ b → find n (cond b ((e.0, v) ∷ es) (e ∷ put key v es)) ≡ cond (bytes_eq n key) (Some v) (cond (bytes_eq n e.0) (Some e.1) (find n es))
    here below true q =
        let same : key ≡ e.0 = (bytes_eq-Decides key e.0).0 q in
        subst (λ k. cond (bytes_eq n e.0) (Some v) (find n es) ≡ cond (bytes_eq n k) (Some v) (cond (bytes_eq n e.0) (Some e.1) (find n es))) (sym same) (twice (bytes_eq n e.0))
      where
        twice : (b : Bool) → cond b (Some v) (find n es) ≡ cond b (Some v) (cond b (Some e.1) (find n es))
        twice true = refl
        twice false = refl
    here below false q = ap (λ o. cond (bytes_eq n e.0) (Some e.1) o) below ∙ swapped (bytes_eq n e.0) (bytes_eq n key) refl refl
      where
        swapped : (b c : Bool) → bytes_eq n e.0 ≡ b → bytes_eq n key ≡ c → cond b (Some e.1) (cond c (Some v) (find n es)) ≡ cond c (Some v) (cond b (Some e.1) (find n es))
        swapped true true f g =
            let same : key ≡ e.0 = sym ((bytes_eq-Decides n key).0 g) ∙ (bytes_eq-Decides n e.0).0 f in
            let w : true ≡ false = sym ((bytes_eq-Decides key e.0).1 same) ∙ q in absurd (cc w)
        swapped true false f g = refl
        swapped false true f g = refl
        swapped false false f g = refl

-- what stands at each name of a map stands there too after a value of a kind is put
pub stands-put : (k : Kind) (key : List ℕ) (v : Value) → HasKind k v → (before : Fields) (m : List (List ℕ × Value)) → ((n : List ℕ) → StandsAt before n (find n m)) → (n : List ℕ) → StandsAt (field key k true before) n (find n (put key v m))
stands-put k key v h before m f n =
    subst (λ o. StandsAt (field key k true before) n o) (sym (find-put key n v m ∙ ap (λ b. cond b (Some v) (find n m)) (bytes_eq-symm n key))) (at_override k v h (bytes_eq key n) before n (find n m) (f n))
