-- Pairs of distinct names, put one after the other, are those pairs.
use Rattle.std.proofs.Common.{◌≡◌, ℕ, Bool, true, false, not, cond, ◌||◌, List, [], ◌∷◌, ◌++◌, bytes_eq, refl, sym, ap, ◌∙◌, append_assoc, append-nil}
use Rattle.std.specs.Cmp.Lexicographic.{nat_list_eq_equiv}
use Rattle.std.specs.List.{list_any, AllByRecursion}
use Rattle.std.specs.Map.{keys_of}
use Rattle.std.proofs.lemmas.Bool.{and_parts, not-true, false≢true}
use Rattle.expr_value.specs.Names.{put, put_all}
use Rattle.expr_value.specs.declared.value.Value.{Value}
use Rattle.expr_tokens.specs.Printed.{are_distinct}

-- distinct names put one after the other
abbrev pub Named : Type 0
Named = List ℕ × Value

abbrev Away : List ℕ → List Named → Type 0
Away k ps = AllByRecursion (λ (p : Named). bytes_eq k p.0 ≡ false) ps

put_last : (k : List ℕ) (v : Value) (ps : List Named) → Away k ps → put k v ps ≡ ps ++ (k, v) ∷ []
put_last k v [] away = refl
put_last k v (p ∷ ps) away = ap (λ b. cond b ((p.0, v) ∷ ps) (p ∷ put k v ps)) away.0 ∙ ap (λ l. p ∷ l) (put_last k v ps away.1)

away_more : (k : List ℕ) (p : Named) (ps : List Named) → Away k ps → bytes_eq k p.0 ≡ false → Away k (ps ++ p ∷ [])
away_more k p [] away new = (new, tt)
away_more k p (q ∷ ps) away new = (away.0, away_more k p ps away.1 new)

abbrev AllAway : List Named → List Named → Type 0
AllAway done ps = AllByRecursion (λ (p : Named). Away p.0 done) ps

none_is : (k : List ℕ) (p : Named) (ps : List Named) → list_any (bytes_eq k) (keys_of (p ∷ ps)) ≡ false → (bytes_eq k p.0 ≡ false) × (list_any (bytes_eq k) (keys_of ps) ≡ false)
none_is k p ps h = choose (bytes_eq k p.0) refl
  where
    choose : (b : Bool) → bytes_eq k p.0 ≡ b → (bytes_eq k p.0 ≡ false) × (list_any (bytes_eq k) (keys_of ps) ≡ false)
    choose true e = absurd (false≢true (sym h ∙ ap (λ b. b || list_any (bytes_eq k) (keys_of ps)) e))
    choose false e = (e, ap (λ b. b || list_any (bytes_eq k) (keys_of ps)) (sym e) ∙ h)

all_away_more : (done : List Named) (p : Named) (ps : List Named) → AllAway done ps → list_any (bytes_eq p.0) (keys_of ps) ≡ false → AllAway (done ++ p ∷ []) ps
all_away_more done p [] away new = tt
all_away_more done p (q ∷ ps) away new =
    let n = none_is p.0 q ps new in
    (away_more q.0 p done away.0 (nat_list_eq_equiv.symm q.0 p.0 ∙ n.0), all_away_more done p ps away.1 n.1)

put_apart : (done ps : List Named) → AllAway done ps → are_distinct (keys_of ps) ≡ true → put_all done ps ≡ done ++ ps
put_apart done [] away apart = sym (append-nil done)
put_apart done (p ∷ ps) away apart =
    let parts = and_parts (not (list_any (bytes_eq p.0) (keys_of ps))) (are_distinct (keys_of ps)) apart in
    ap (λ d. put_all d ps) (put_last p.0 p.1 done away.0)
    ∙ put_apart (done ++ p ∷ []) ps (all_away_more done p ps away.1 (not-true _ parts.0)) parts.1
    ∙ append_assoc done (p ∷ []) ps

all_from_none : (ps : List Named) → AllAway [] ps
all_from_none [] = tt
all_from_none (p ∷ ps) = (tt, all_from_none ps)

pub put_back : (ps : List Named) → are_distinct (keys_of ps) ≡ true → put_all [] ps ≡ ps
put_back ps apart = put_apart [] ps (all_from_none ps) apart
