-- Each of some values by its kind, one value more at a time.
use Rattle.std.proofs.Common.{◌≡◌, ℕ, zero, suc, ◌+◌, ◌<◌, List, [], ◌∷◌, ◌++◌, length, get_or, take, map, Option, Some, None, Result, Ok, Err, ◌≢◌, refl, sym, ap, subst, ◌∙◌, arith, add-one, append_assoc}
use Rattle.std.specs.Prelude.{slice_get}
use Rattle.std.specs.Option.{option_and_then, option_map}
use Rattle.std.specs.Result.{IsErrAnd}
use Rattle.std.proofs.lemmas.List.{append-nil}
use Rattle.std.proofs.lemmas.Grind.{flat_map-append}
use Rattle.expr_error.specs.ErrorKind.{ErrorKind, RefusesWith, error_kind, memory}
use Rattle.expr_error.specs.declared.error.Error.{Error}
use Rattle.expr_value.specs.Values.{items_of, of_key}
use Rattle.expr_value.specs.declared.key.Key.{Key}
use Rattle.expr_value.specs.declared.value.Value as value
use Rattle.expr_value.specs.declared.value.Value.{Value}
use Rattle.expr_builtins.specs.Collections.{concatenated, named_pair, keyed_pair, pair}
use Rattle.expr_arguments.specs.Arguments.{all_of}

module _ {A : Type 0} (kind : Value → Option A) where
  -- one more at the end
  abbrev pushed : Option A → Option (List A) → Option (List A)
  pushed o done = option_and_then (λ xs. option_map (λ x. xs ++ x ∷ []) o) done

  -- one more at the start
  abbrev before : Option A → Option (List A) → Option (List A)
  before o rest = option_and_then (λ x. option_map (λ xs. x ∷ xs) rest) o

  swapped : (o q : Option A) (r : Option (List A)) → before o (pushed q r) ≡ pushed q (before o r)
  swapped None q r = refl
  swapped (Some x) q None = refl
  swapped (Some x) None (Some xs) = refl
  swapped (Some x) (Some y) (Some xs) = refl

  alone : (q : Option A) → before q (Some []) ≡ pushed q (Some [])
  alone None = refl
  alone (Some x) = refl

  pub all_of-push : (vs : List Value) (v : Value) → all_of kind (vs ++ v ∷ []) ≡ pushed (kind v) (all_of kind vs)
  all_of-push [] v = alone (kind v)
  all_of-push (w ∷ vs) v = ap (before (kind w)) (all_of-push vs v) ∙ swapped (kind w) (kind v) (all_of kind vs)

  pub all_of-next : (vs : List Value) (v : Value) (xs : List A) (x : A) → all_of kind vs ≡ Some xs → kind v ≡ Some x → all_of kind (vs ++ v ∷ []) ≡ Some (xs ++ x ∷ [])
  all_of-next vs v xs x e is = all_of-push vs v ∙ ap (pushed (kind v)) e ∙ ap (λ o. pushed o (Some xs)) is

  none_before : (o : Option A) → before o None ≡ None
  none_before None = refl
  none_before (Some x) = refl

  pub all_of-refused : (vs : List Value) (i : ℕ) (v : Value) → i < length vs → v ≡ get_or vs i v → kind v ≡ None → all_of kind vs ≡ None
  all_of-refused [] i v w e n = absurd (omega arith)
  all_of-refused (u ∷ vs) zero v w e n = ap (λ o. before o (all_of kind vs)) (ap kind (sym e) ∙ n)
  all_of-refused (u ∷ vs) (suc i) v w e n = ap (before (kind u)) (all_of-refused vs i v (omega arith) e n) ∙ none_before (kind u)

-- the items of one array more, after those in front
module _ (front : List Value) where
  abbrev rows : List (List Value) → List Value
  rows xss = front ++ concatenated xss

  row_pushed : (all xs : List Value) (done : Option (List (List Value))) → option_map rows done ≡ Some all → option_map rows (pushed items_of (Some xs) done) ≡ Some (all ++ xs)
  row_pushed all xs None e = absurd (cc)
  row_pushed all xs (Some xss) e =
      ap (λ l. Some (front ++ l)) (flat_map-append (λ (ys : List Value). ys) xss (xs ∷ []) ∙ ap (λ l. concatenated xss ++ l) (append-nil xs))
      ∙ ap Some (sym (append_assoc front (concatenated xss) xs)) ∙ ap (option_map (λ l. l ++ xs)) e

  pub row_after : (vs : List Value) (v : Value) (all xs : List Value) → option_map rows (all_of items_of vs) ≡ Some all → items_of v ≡ Some xs → option_map rows (all_of items_of (vs ++ v ∷ [])) ≡ Some (all ++ xs)
  row_after vs v all xs e is =
      ap (option_map rows) (all_of-push items_of vs v ∙ ap (λ o. pushed items_of o (all_of items_of vs)) is) ∙ row_pushed all xs (all_of items_of vs) e

-- one item more of a list
module _ {A B : Type 0} (f : A → B) where
  taken_more : (xs : List A) (i : ℕ) (x : A) → slice_get xs i ≡ Some x → map f (take (suc i) xs) ≡ map f (take i xs) ++ f x ∷ []
  taken_more [] i x e = absurd (cc)
  taken_more (y ∷ xs) zero x e = ap (λ z. f z ∷ []) (inside e)
    where
      inside : Some y ≡ Some x → y ≡ x
      inside e = cc
  taken_more (y ∷ xs) (suc i) x e = ap (λ l. f y ∷ l) (taken_more xs i x e)

pub named_more : (ps : List (List ℕ × Value)) (i j : ℕ) (k : List ℕ) (v : Value) → slice_get ps i ≡ Some (k, v) → j ≡ i + 1 → map named_pair (take j ps) ≡ map named_pair (take i ps) ++ pair (value.String k) v ∷ []
named_more ps i j k v e n = ap (λ m. map named_pair (take m ps)) (n ∙ add-one i) ∙ taken_more named_pair ps i (k, v) e

pub keyed_more : (ps : List (Key × Value)) (i j : ℕ) (k : Key) (v : Value) → slice_get ps i ≡ Some (k, v) → j ≡ i + 1 → map keyed_pair (take j ps) ≡ map keyed_pair (take i ps) ++ pair (of_key k) v ∷ []
keyed_more ps i j k v e n = ap (λ m. map keyed_pair (take m ps)) (n ∙ add-one i) ∙ taken_more keyed_pair ps i (k, v) e

pub all_taken : {A : Type 0} (xs : List A) (i : ℕ) → slice_get xs i ≡ None → take i xs ≡ xs
all_taken [] zero e = refl
all_taken [] (suc i) e = refl
all_taken (x ∷ xs) zero e = absurd (cc)
all_taken (x ∷ xs) (suc i) e = ap (λ l. x ∷ l) (all_taken xs i e)

-- an error that a `?` passes on
pub refused_passed : {A : Type 0} (r : Result A Error) (e : Error) (P : ErrorKind → Type 0)
    → IsErrAnd r (λ x. x ≡ e) → (error_kind e ≢ memory → P (error_kind e)) → RefusesWith r P
refused_passed (Ok v) e P is p = absurd is
refused_passed (Err x) e P is p = subst (λ y. error_kind y ≢ memory → P (error_kind y)) (sym is) p
