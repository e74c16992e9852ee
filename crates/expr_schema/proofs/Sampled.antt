-- Fields of the pairs of a map, one more at a time.
use Rattle.std.proofs.Common.{◌≡◌, ℕ, Bool, true, false, cond, List, [], ◌∷◌, ◌++◌, Some, None, MatchBool, bytes_eq, refl, sym, subst, ap, ◌∙◌}
use Rattle.std.specs.Map.{lookup}
use Rattle.expr_value.specs.Names.{find}
use Rattle.expr_value.specs.declared.value.Value.{Value}
use Rattle.expr_schema.specs.Kinds.{Kind, Fields, Found, HasKind, StandsAt, field}
use Rattle.expr_schema.proofs.Standing.{bytes_eq-symm, same_name}

module _ {V : Type 0} (test : List ℕ → Bool) (e : List ℕ × V) where
  last_found : (xs : List (List ℕ × V)) → lookup test xs ≡ None → lookup test (xs ++ e ∷ []) ≡ cond (test e.0) (Some e.1) None
  last_found [] q = refl
  last_found (x ∷ xs) q = here (test x.0) q (λ p. last_found xs p)
    where
      here : (b : Bool) → cond b (Some x.1) (lookup test xs) ≡ None → (lookup test xs ≡ None → lookup test (xs ++ e ∷ []) ≡ cond (test e.0) (Some e.1) None)
          → cond b (Some x.1) (lookup test (xs ++ e ∷ [])) ≡ cond (test e.0) (Some e.1) None
      here true p f = absurd (cc p)
      here false p f = f p

  last_passed : (xs : List (List ℕ × V)) → test e.0 ≡ false → lookup test (xs ++ e ∷ []) ≡ lookup test xs
  last_passed [] q = ap (λ b. cond b (Some e.1) None) q
  last_passed (x ∷ xs) q = ap (cond (test x.0) (Some x.1)) (last_passed xs q)

-- one pair more, with its field
pub one_more : (F : Fields) (xs : List (List ℕ × Value)) (k : List ℕ) (v : Value) (j : Kind) (required : Bool) → HasKind j v → lookup (bytes_eq k) xs ≡ None
    → ((n : List ℕ) → StandsAt F n (find n xs)) → (n : List ℕ) → StandsAt (field k j required F) n (find n (xs ++ (k, v) ∷ []))
one_more F xs k v j required h none all n = here (bytes_eq k n) (bytes_eq n k) refl refl (bytes_eq-symm k n)
  where
    here : (b c : Bool) → bytes_eq k n ≡ b → bytes_eq n k ≡ c → b ≡ c → MatchBool b (Found required (λ w. HasKind j w) (find n (xs ++ (k, v) ∷ []))) (StandsAt F n (find n (xs ++ (k, v) ∷ [])))
    here true true p q e =
        let absent : lookup (bytes_eq n) xs ≡ None = ap (λ i. lookup (bytes_eq i) xs) (sym (same_name k n p)) ∙ none in
        let found : find n (xs ++ (k, v) ∷ []) ≡ Some v = last_found (bytes_eq n) (k, v) xs absent ∙ ap (λ b. cond b (Some v) None) q in
        subst (λ x. Found required (λ w. HasKind j w) x) (sym found) h
    here false false p q e = subst (λ x. StandsAt F n x) (sym (last_passed (bytes_eq n) (k, v) xs q)) (all n)
    here true false p q e = absurd (cc e)
    here false true p q e = absurd (cc e)
