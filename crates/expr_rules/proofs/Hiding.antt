-- What is asked for behind lines.
use Rattle.std.proofs.Common.{◌≡◌, ℕ, Bool, true, false, not, ◌||◌, List, [], ◌∷◌, ◌++◌, map, Bor, bytes_eq, if◌then◌else◌, refl, ap, ◌∙◌}
use Rattle.std.specs.List.{filter, list_any}
use Rattle.expr_rules.specs.Needs.{behind_line}
use Rattle.expr_rules.specs.Tasks.{Keys, hidden, is_hidden, outer}
use Rattle.expr_rules.specs.declared.needs.NeedKind.{NeedKind}
use Rattle.expr_rules.specs.declared.needs.NeedKind.TheVariants.{Names, Functions}

filter-append : {X : Type 0} (p : X → Bool) (xs ys : List X) → filter p (xs ++ ys) ≡ filter p xs ++ filter p ys
filter-append p [] ys = refl
filter-append p (x ∷ xs) ys = by (p x) (filter-append p xs ys)
  where
    by : (b : Bool) → filter p (xs ++ ys) ≡ filter p xs ++ filter p ys → (if b then x ∷ filter p (xs ++ ys) else filter p (xs ++ ys)) ≡ (if b then x ∷ filter p xs else filter p xs) ++ filter p ys
    by true same = ap (λ l. x ∷ l) same
    by false same = same

behind_line-append : (a : NeedKind) (key : List ℕ) (xs ys : List (List ℕ)) → behind_line a key (xs ++ ys) ≡ behind_line a key xs ++ behind_line a key ys
behind_line-append Names key xs ys = filter-append (λ n. not (bytes_eq n key)) xs ys
behind_line-append Functions key xs ys = refl

pub hidden-append : (a : NeedKind) (scope : Keys) (xs ys : List (List ℕ)) → hidden a scope (xs ++ ys) ≡ hidden a scope xs ++ hidden a scope ys
hidden-append a [] xs ys = refl
hidden-append a (key ∷ scope) xs ys = ap (behind_line a key) (hidden-append a scope xs ys) ∙ behind_line-append a key (hidden a scope xs) (hidden a scope ys)

pub hidden-nil : (a : NeedKind) (scope : Keys) → hidden a scope [] ≡ []
hidden-nil a [] = refl
hidden-nil Names (key ∷ scope) = ap (behind_line Names key) (hidden-nil Names scope)
hidden-nil Functions (key ∷ scope) = hidden-nil Functions scope

-- one line more
pub hidden-push : (a : NeedKind) (scope : Keys) (key : List ℕ) (xs : List (List ℕ)) → hidden a (scope ++ key ∷ []) xs ≡ hidden a scope (behind_line a key xs)
hidden-push a [] key xs = refl
hidden-push a (k ∷ scope) key xs = ap (behind_line a k) (hidden-push a scope key xs)

pub outer-push : (scope : Keys) (key : List ℕ) → outer (scope ++ key ∷ []) ≡ scope
outer-push [] key = refl
outer-push (k ∷ []) key = refl
outer-push (k ∷ next ∷ scope) key = ap (λ l. k ∷ l) (outer-push (next ∷ scope) key)

-- a name alone stays unless it is that of a line
pub hidden-one : (a : NeedKind) (scope : Keys) (key : List ℕ) → hidden a scope (key ∷ []) ≡ (if is_hidden a scope key then [] else key ∷ [])
hidden-one Names [] key = refl
hidden-one Names (k ∷ scope) key = ap (behind_line Names k) (hidden-one Names scope key) ∙ by (list_any (bytes_eq key) scope) (bytes_eq key k) refl
  where
    by : (later here : Bool) → bytes_eq key k ≡ here → filter (λ n. not (bytes_eq n k)) (if later then [] else key ∷ []) ≡ (if here || later then [] else key ∷ [])
    by true true is = refl
    by true false is = refl
    by false true is = ap (λ b. if not b then key ∷ [] else []) is
    by false false is = ap (λ b. if not b then key ∷ [] else []) is
hidden-one Functions [] key = refl
hidden-one Functions (k ∷ scope) key = hidden-one Functions scope key

pub list_any-keys : (n : List ℕ) (xs : List (Bor (List ℕ))) → list_any (λ key. bytes_eq n key.now) xs ≡ list_any (bytes_eq n) (map (λ key. key.now) xs)
list_any-keys n [] = refl
list_any-keys n (x ∷ xs) = ap (λ b. bytes_eq n x.now || b) (list_any-keys n xs)
