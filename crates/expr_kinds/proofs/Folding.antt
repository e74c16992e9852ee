-- What a built-in with a predicate returns, given the kinds of its items and of the predicate's results.
use Rattle.std.proofs.Common.{◌≡◌, ◌⊎◌, ℕ, ◌+◌, ◌-◌, ◌==◌, negsuc, Bool, true, false, not, ◌||◌, cond, List, [], ◌∷◌, ◌++◌, length, map as mapped, reverse, count_by, Option, Some, None, option_map, is_some, IfSome, Result, Ok, Err, MatchBool, codes, refl, sym, ap, ◌∙◌, subst, inl, inr}
use Rattle.std.specs.Int.{w64, cast_signed}
use Rattle.std.specs.List.{filter, find as first_found, list_any, position_from}
use Rattle.expr_arguments.specs.Arguments.{array_and_more, array_then}
use Rattle.expr_context.specs.Context.{ContextView, hash, override}
use Rattle.expr_context.specs.Lookups.{predicate_context}
use Rattle.expr_context.specs.Told.{PredicateArgsView}
use Rattle.expr_error.specs.ErrorKind.{ErrorKind, evaluation}
use Rattle.expr_functions.specs.declared.functions.HigherOrderCall.{HigherOrderCall}
use Rattle.expr_functions.specs.declared.functions.HigherOrderCall.TheVariants as higher
use Rattle.expr_meaning.specs.Host.{Host}
use Rattle.expr_predicates.specs.Calls.{AllowsHigherOrder, FoldOver, direction_named, fold_of, fold_of_array, fold_of_call, reduce_from_first, runs_alone, sort_in_direction}
use Rattle.expr_predicates.specs.Folds.{Fold, FoldOutcome, ItemAnswer, acc_after, all_hold, any_holds, none_holds, one_holds, mapping as mapping_fold, filtering, finding, finding_place, finding_last_place, counting, summing, reducing, grouping, sorting, args_about, fold_outcome, groups_of, has_stopped, holds, fails, items_by_key, number, place_or_none, refuses_answer, total as sum_of_answers}
use Rattle.expr_predicates.specs.Runs.{FoldMayReturn}
use Rattle.expr_value.specs.Answers.{Answer, Then, ThenIfOk}
use Rattle.expr_value.specs.FirstPlaces.{first_places}
use Rattle.expr_value.specs.Keys.{key_eq}
use Rattle.expr_value.specs.Values.{integer_of, key_of, string_of, truth_of}
use Rattle.expr_value.specs.declared.key.Key.{Key}
use Rattle.expr_value.specs.declared.value.Value as value
use Rattle.expr_value.specs.declared.value.Value.{Value}
use Rattle.expr_kinds.specs.Causes.{Literals, AreKnown, direction_at, effect_under}
use Rattle.expr_schema.specs.Kinds.{Kind, bool, integer, string, array, keyed, nilable, HasKind, Each, Fits, Effect, failing}
use Rattle.expr_kinds.specs.Effects.{AdmitsError, ResultIs, Yields, CoversEffect}
use Rattle.expr_schema.specs.Scopes.{Scope, Conforms}
use Rattle.expr_kinds.specs.Scopes.{Hosts, HaveKinds, asked, bind_kind}
use Rattle.expr_kinds.specs.Typed.{Asking, FoldGives, HigherOrderGives, IsDirected, IsScalarKind, OrFails, StartsAs, accumulating}
use Rattle.expr_kinds.proofs.Answered.{value-yields, same-yields, ResultIs-under, Then-yields, either-yields}
use Rattle.expr_kinds.proofs.Binding.{Conforms-bind, Hosts-bind}
use Rattle.expr_kinds.proofs.Found.{finds-bool, finds-integer, items-are}
use Rattle.expr_kinds.proofs.Held.{Of, at-kind}
use Rattle.expr_kinds.proofs.Lists.{Each-all, Each-append, Each-filter, Each-filter_map, Each-found, Each-map, Each-reverse, Each-weaker, IfSome-all, IfSome-map, nil-or}
use Rattle.expr_kinds.proofs.Sorted.{alike-integers, alike-strings, direction-known, sorts-alike, sorts-failing}

-- an item and the result for it
abbrev Good : Kind → Kind → ItemAnswer → Type 0
Good item answer r = HasKind item r.0 × HasKind answer r.1

module _ (item answer : Kind) (rs : List ItemAnswer) (good : Each (Good item answer) rs) where
  items-good : Each (λ r. HasKind item r.0) rs
  items-good = Each-weaker (Good item answer) (λ r. HasKind item r.0) (λ r h. h.0) rs good

  answers-good : Each (λ r. HasKind answer r.1) rs
  answers-good = Each-weaker (Good item answer) (λ r. HasKind answer r.1) (λ r h. h.1) rs good

-- a fold over items, after some results
module _ (e : Effect) (t : Fold) (asks : PredicateArgsView → Answer → Type 0) (item answer k : Kind)
    (of_asks : (rs : List ItemAnswer) (x : Value) → Each (Good item answer) rs → HasKind item x → Yields e (Of answer) (asks (args_about t rs x)))
    (refused : (v : Value) → HasKind answer v → refuses_answer t v ≡ true → AdmitsError e evaluation)
    (outcome : (rs : List ItemAnswer) → Each (Good item answer) rs → Yields e (Of k) (FoldOutcome t rs)) where
  folded : (left : List Value) (rs : List ItemAnswer) → Each (Of item) left → Each (Good item answer) rs → Yields e (Of k) (FoldMayReturn t asks left rs)
  folded [] rs l g a p = outcome rs g a p
  folded (x ∷ left) rs l g a p =
      either-yields e (Of k) (has_stopped t rs) (FoldOutcome t rs) (Then (asks (args_about t rs x)) (λ v r. MatchBool (refuses_answer t v) (r ≡ Err evaluation) (FoldMayReturn t asks left (rs ++ (x, v) ∷ []) r)))
      (λ s. outcome rs g)
      (λ s. Then-yields e (Of answer) (Of k) (asks (args_about t rs x)) (λ v r. MatchBool (refuses_answer t v) (r ≡ Err evaluation) (FoldMayReturn t asks left (rs ++ (x, v) ∷ []) r)) (of_asks rs x g l.0)
      (λ v h. either-yields e (Of k) (refuses_answer t v) (λ r. r ≡ Err evaluation) (λ r. FoldMayReturn t asks left (rs ++ (x, v) ∷ []) r)
      (λ q. same-yields e (Of k) (Err evaluation) (refused v h q))
      (λ q. folded left (rs ++ (x, v) ∷ []) l.1 (Each-append (Good item answer) rs ((x, v) ∷ []) g ((l.0, h), tt)))))
      a p

  pub from-start : (items : List Value) → Each (Of item) items → Yields e (Of k) (FoldMayReturn t asks items [])
  from-start items each = folded items [] each tt

place-integer : (o : Option ℕ) → HasKind integer (place_or_none o)
place-integer (Some n) = (cast_signed w64 n, refl)
place-integer None = (negsuc 0, refl)

-- what may be any error, where every error is admitted
admitted : (e : Effect) → CoversEffect e failing → AdmitsError e evaluation
admitted e covers = covers evaluation tt

true-or : (e : Effect) (b : Bool) → b ≡ false → b ≡ true → AdmitsError e evaluation
true-or e b is_false is_true = let wrong : true ≡ false = sym is_true ∙ is_false in absurd (cc wrong)

-- results that a fold takes
counts : (e : Effect) (answer : Kind) → OrFails e (Fits answer bool) → (v : Value) → HasKind answer v → refuses_answer counting v ≡ true → AdmitsError e evaluation
counts e answer (inl fits) v h q = true-or e (not (is_some (truth_of v))) (ap (λ o. not (is_some o)) (finds-bool v (fits v h)).1) q
counts e answer (inr covers) v h q = admitted e covers

sums : (e : Effect) (answer : Kind) → OrFails e (Fits answer integer) → (v : Value) → HasKind answer v → refuses_answer summing v ≡ true → AdmitsError e evaluation
sums e answer (inl fits) v h q = true-or e (not (is_some (integer_of v))) (ap (λ o. not (is_some o)) (finds-integer v (fits v h)).1) q
sums e answer (inr covers) v h q = admitted e covers

groups : (e : Effect) (answer : Kind) → OrFails e (IsScalarKind answer) → (v : Value) → HasKind answer v → refuses_answer grouping v ≡ true → AdmitsError e evaluation
groups e answer (inl scalar) v h q = true-or e (not (is_some (key_of v))) (ap not (scalar v h)) q
groups e answer (inr covers) v h q = admitted e covers

-- groups of items of a kind
module _ (item : Kind) where
  keyed-items : (rs : List ItemAnswer) → Each (λ r. HasKind item r.0) rs → Each (λ p. HasKind item p.1) (items_by_key rs)
  keyed-items rs p =
      Each-filter_map (λ q. HasKind item q.1) (λ (r : ItemAnswer). option_map (λ k. (k, r.0)) (key_of r.1)) rs (Each-weaker (λ r. HasKind item r.0) (λ r. IfSome (option_map (λ k. (k, r.0)) (key_of r.1)) (λ q. HasKind item q.1)) (λ r h.
      IfSome-map (λ q. HasKind item q.1) (λ k. (k, r.0)) (key_of r.1) (IfSome-all (λ k. HasKind item r.0) (key_of r.1) (λ k. h))) rs p)

  one-group : (ps : List (Key × Value)) → Each (λ p. HasKind item p.1) ps → (k : Key) → HasKind (array item) (value.Array (mapped (λ p. p.1) (filter (λ p. key_eq k p.0) ps)))
  one-group ps each k =
      (mapped (λ p. p.1) (filter (λ p. key_eq k p.0) ps), refl, Each-map (Of item) (λ (p : Key × Value). p.1) (filter (λ p. key_eq k p.0) ps) (Each-filter (λ (p : Key × Value). HasKind item p.1) (λ p. key_eq k p.0) ps each))

  grouped : (ps : List (Key × Value)) → Each (λ p. HasKind item p.1) ps → HasKind (keyed (array item)) (value.KeyedMap (groups_of ps))
  grouped ps each = (
    groups_of ps,
    refl,
    Each-map (λ e. HasKind (array item) e.1) (λ k. (k, value.Array (mapped (λ p. p.1) (filter (λ p. key_eq k p.0) ps)))) (first_places key_eq (mapped (λ p. p.0) ps))
        (Each-all (λ k. HasKind (array item) (value.Array (mapped (λ p. p.1) (filter (λ p. key_eq k p.0) ps)))) (one-group ps each) (first_places key_eq (mapped (λ p. p.0) ps))),
  )

-- the last result, or the initial value
acc-kind : (k : Kind) (init : Value) → HasKind k init → (rs : List ItemAnswer) → Each (λ r. HasKind k r.1) rs → HasKind k (acc_after init rs)
acc-kind k init h [] p = h
acc-kind k init h (r ∷ rs) p = acc-kind k r.1 p.0 rs p.1

-- items with results that sort
sorted-yields : (e : Effect) (down : Bool) (item answer : Kind) → OrFails e (Fits answer integer ⊎ Fits answer string) → (rs : List ItemAnswer) → Each (Good item answer) rs → Yields e (Of (array item)) (FoldOutcome (sorting down) rs)
sorted-yields e down item answer (inl (inl fits)) rs good =
    sorts-alike item rs (items-good item answer rs good) e down (alike-integers rs (Each-weaker (λ r. HasKind answer r.1) (λ r. HasKind integer r.1) (λ r. fits r.1) rs (answers-good item answer rs good)))
sorted-yields e down item answer (inl (inr fits)) rs good =
    sorts-alike item rs (items-good item answer rs good) e down (alike-strings rs (Each-weaker (λ r. HasKind answer r.1) (λ r. HasKind string r.1) (λ r. fits r.1) rs (answers-good item answer rs good)))
sorted-yields e down item answer (inr covers) rs good =
    λ a p. ResultIs-under failing e (Of (array item)) (Of (array item)) (λ v h. h) covers a (sorts-failing item rs (items-good item answer rs good) down a p)

-- a call, given what its predicate may return
module _ (e : Effect) (host : Host) (s : Scope) (hosts : Hosts s host) (ctx : ContextView) (c : Conforms s ctx) (asking : Asking) (asks : PredicateArgsView → Answer → Type 0)
    (of_asking : (inside : Scope) → Hosts inside host → (item answer : Kind) → asking inside item answer → (q : PredicateArgsView) → Conforms inside (predicate_context ctx q) → HasKind item q.item → Yields e (Of answer) (asks q)) where
  module _ (item answer : Kind) where
    alone : asking (bind_kind hash item s) item answer → (x : Value) → HasKind item x → Yields e (Of answer) (asks (record { item = x; index = None; acc = None }))
    alone typed x h = of_asking (bind_kind hash item s) (Hosts-bind item hash s host hosts) item answer typed (record { item = x; index = None; acc = None }) (Conforms-bind item hash x h s ctx c) h

    number-kind : (n : ℕ) → HasKind integer (number n)
    number-kind n = (cast_signed w64 n, refl)

    at-index : asking (bind_kind hash item (bind_kind (codes "#index") integer s)) item answer → (n : ℕ) (x : Value) → HasKind item x → Yields e (Of answer) (asks (record { item = x; index = Some (number n); acc = None }))
    at-index typed n x h =
        of_asking (bind_kind hash item (bind_kind (codes "#index") integer s)) (Hosts-bind item hash (bind_kind (codes "#index") integer s) host (Hosts-bind integer (codes "#index") s host hosts)) item answer typed (record { item = x; index = Some (number n); acc = None })
        (Conforms-bind item hash x h (bind_kind (codes "#index") integer s) (override ctx (codes "#index") (number n)) (Conforms-bind integer (codes "#index") (number n) (number-kind n) s ctx c)) h

    after-acc : (acc : Kind) → asking (accumulating acc item s) item answer → (n : ℕ) (v : Value) → HasKind acc v → (x : Value) → HasKind item x → Yields e (Of answer) (asks (record { item = x; index = Some (number n); acc = Some v }))
    after-acc acc typed n v i x h =
        of_asking (accumulating acc item s) (Hosts-bind item hash (bind_kind (codes "#index") integer (bind_kind (codes "#acc") acc s)) host (Hosts-bind integer (codes "#index") (bind_kind (codes "#acc") acc s) host (Hosts-bind acc (codes "#acc") s host hosts))) item answer typed
        (record { item = x; index = Some (number n); acc = Some v })
        (Conforms-bind item hash x h (bind_kind (codes "#index") integer (bind_kind (codes "#acc") acc s)) (override (override ctx (codes "#acc") v) (codes "#index") (number n))
        (Conforms-bind integer (codes "#index") (number n) (number-kind n) (bind_kind (codes "#acc") acc s) (override ctx (codes "#acc") v) (Conforms-bind acc (codes "#acc") v i s ctx c))) h

  -- the run of a fold
  abbrev RunOf : Result FoldOver ErrorKind → Answer → Type 0
  RunOf start = ThenIfOk start (λ (z : FoldOver). FoldMayReturn z.fold asks z.items [])

  with-array : (b : HigherOrderCall) (k item : Kind) (given : Bool) → (given || runs_alone b) ≡ true → ((xs : List Value) → Each (Of item) xs → Yields e (Of k) (RunOf (fold_of b xs None))) → (v : Value) → HasKind (array item) v
      → Yields e (Of k) (AllowsHigherOrder b (v ∷ []) given asks)
  with-array b k item given gate f v h a p = f h.0 h.2 a (subst (λ r. RunOf r a) start p)
    where
      start : fold_of_call b (v ∷ []) given ≡ fold_of b h.0 None
      start = ap (λ w. cond w (fold_of_array b (array_and_more (v ∷ []))) (Err evaluation)) gate ∙ ap (λ o. fold_of_array b (array_then o None)) (items-are item v h)

  with-array_and : (b : HigherOrderCall) (k item : Kind) (given : Bool) → (given || runs_alone b) ≡ true → (w : Value) → ((xs : List Value) → Each (Of item) xs → Yields e (Of k) (RunOf (fold_of b xs (Some w)))) → (v : Value) → HasKind (array item) v
      → Yields e (Of k) (AllowsHigherOrder b (v ∷ w ∷ []) given asks)
  with-array_and b k item given gate w f v h a p = f h.0 h.2 a (subst (λ r. RunOf r a) start p)
    where
      start : fold_of_call b (v ∷ w ∷ []) given ≡ fold_of b h.0 (Some w)
      start = ap (λ t. cond t (fold_of_array b (array_and_more (v ∷ w ∷ []))) (Err evaluation)) gate ∙ ap (λ o. fold_of_array b (array_then o (Some w))) (items-are item v h)

  module _ (item answer : Kind) (given : Bool) where
    -- a fold that binds the item alone and takes every result
    plainly : (t : Fold) (k : Kind) → ((rs : List ItemAnswer) (x : Value) → args_about t rs x ≡ record { item = x; index = None; acc = None }) → ((v : Value) → HasKind answer v → refuses_answer t v ≡ true → AdmitsError e evaluation)
        → ((rs : List ItemAnswer) → Each (Good item answer) rs → Yields e (Of k) (FoldOutcome t rs)) → asking (bind_kind hash item s) item answer → (xs : List Value) → Each (Of item) xs → Yields e (Of k) (FoldMayReturn t asks xs [])
    plainly t k args refused outcome typed =
        from-start e t asks item answer k (λ rs x g h. subst (λ q. Yields e (Of answer) (asks q)) (sym (args rs x)) (alone item answer typed x h)) refused outcome

    taken : (v : Value) → HasKind answer v → false ≡ true → AdmitsError e evaluation
    taken v h wrong = absurd (cc wrong)

    a-bool : (t : Fold) → ((rs : List ItemAnswer) → HasKind bool (fold_outcome t rs)) → (rs : List ItemAnswer) → Each (Good item answer) rs → Yields e (Of bool) (λ a. a ≡ Ok (fold_outcome t rs))
    a-bool t f rs good = value-yields e (Of bool) (fold_outcome t rs) (f rs)

    found : (rs : List ItemAnswer) → Each (Good item answer) rs → Yields e (Of (nilable item)) (λ a. a ≡ Ok (fold_outcome finding rs))
    found rs good =
        value-yields e (Of (nilable item)) (fold_outcome finding rs)
        (nil-or item (option_map (λ r. r.0) (first_found holds rs)) (IfSome-map (Of item) (λ (r : ItemAnswer). r.0) (first_found holds rs) (Each-found (λ (r : ItemAnswer). HasKind item r.0) holds rs (items-good item answer rs good))))

    folds : (b : HigherOrderCall) (k : Kind) → FoldGives e b item answer k → (given || runs_alone b) ≡ true → asking (asked b item s) item answer → (v : Value) → HasKind (array item) v
        → Yields e (Of k) (AllowsHigherOrder b (v ∷ []) given asks)
    folds higher.All k q gate typed v h a p =
        at-kind e k bool a q (with-array higher.All bool item given gate (plainly all_hold bool (λ rs x. refl) taken (a-bool all_hold (λ rs. (not (list_any fails rs), refl))) typed) v h a p)
    folds higher.Any k q gate typed v h a p =
        at-kind e k bool a q (with-array higher.Any bool item given gate (plainly any_holds bool (λ rs x. refl) taken (a-bool any_holds (λ rs. (list_any holds rs, refl))) typed) v h a p)
    folds higher.NoneOf k q gate typed v h a p =
        at-kind e k bool a q (with-array higher.NoneOf bool item given gate (plainly none_holds bool (λ rs x. refl) taken (a-bool none_holds (λ rs. (not (list_any holds rs), refl))) typed) v h a p)
    folds higher.One k q gate typed v h a p =
        at-kind e k bool a q (with-array higher.One bool item given gate (plainly one_holds bool (λ rs x. refl) taken (a-bool one_holds (λ rs. (count_by holds rs == 1, refl))) typed) v h a p)
    folds higher.Map k q gate typed v h a p =
        at-kind e k (array answer) a q (with-array higher.Map (array answer) item given gate (from-start e mapping_fold asks item answer (array answer) (λ rs x g i. at-index item answer typed (length rs) x i) taken (λ rs good.
        value-yields e (Of (array answer)) (fold_outcome mapping_fold rs) (mapped (λ r. r.1) rs, refl, Each-map (Of answer) (λ (r : ItemAnswer). r.1) rs (answers-good item answer rs good)))) v h a p)
    folds higher.Filter k q gate typed v h a p =
        at-kind e k (array item) a q (with-array higher.Filter (array item) item given gate (plainly filtering (array item) (λ rs x. refl) taken (λ rs good.
        value-yields e (Of (array item)) (fold_outcome filtering rs)
        (mapped (λ r. r.0) (filter holds rs), refl, Each-map (Of item) (λ (r : ItemAnswer). r.0) (filter holds rs) (Each-filter (λ (r : ItemAnswer). HasKind item r.0) holds rs (items-good item answer rs good)))) typed) v h a p)
    folds higher.Find k q gate typed v h a p =
        at-kind e k (nilable item) a q (with-array higher.Find (nilable item) item given gate (plainly finding (nilable item) (λ rs x. refl) taken found typed) v h a p)
    folds higher.FindLast k q gate typed v h a p =
        at-kind e k (nilable item) a q (with-array higher.FindLast (nilable item) item given gate (λ xs each.
        plainly finding (nilable item) (λ rs x. refl) taken found typed (reverse xs) (Each-reverse (Of item) xs each)) v h a p)
    folds higher.FindIndex k q gate typed v h a p =
        at-kind e k integer a q (with-array higher.FindIndex integer item given gate (plainly finding_place integer (λ rs x. refl) taken (λ rs good.
        value-yields e (Of integer) (fold_outcome finding_place rs) (place-integer (position_from holds 0 rs))) typed) v h a p)
    folds higher.FindLastIndex k q gate typed v h a p =
        at-kind e k integer a q (with-array higher.FindLastIndex integer item given gate (λ xs each.
        plainly (finding_last_place (length xs)) integer (λ rs x. refl) taken (λ rs good.
        value-yields e (Of integer) (fold_outcome (finding_last_place (length xs)) rs) (place-integer (option_map (λ n. length xs - 1 - n) (position_from holds 0 rs)))) typed (reverse xs) (Each-reverse (Of item) xs each)) v h a p)
    folds higher.Count k (f, q) gate typed v h a p =
        at-kind e k integer a q (with-array higher.Count integer item given gate (plainly counting integer (λ rs x. refl) (counts e answer f) (λ rs good.
        value-yields e (Of integer) (fold_outcome counting rs) (cast_signed w64 (count_by holds rs), refl)) typed) v h a p)
    folds higher.Sum k (f, q) gate typed v h a p =
        at-kind e k integer a q (with-array higher.Sum integer item given gate (plainly summing integer (λ rs x. refl) (sums e answer f) (λ rs good.
        value-yields e (Of integer) (fold_outcome summing rs) (sum_of_answers rs, refl)) typed) v h a p)
    folds higher.GroupBy k (f, q) gate typed v h a p =
        at-kind e k (keyed (array item)) a q (with-array higher.GroupBy (keyed (array item)) item given gate (plainly grouping (keyed (array item)) (λ rs x. refl) (groups e answer f) (λ rs good.
        value-yields e (Of (keyed (array item))) (fold_outcome grouping rs) (grouped item (items_by_key rs) (keyed-items item rs (items-good item answer rs good)))) typed) v h a p)
    folds higher.SortBy k (f, q) gate typed v h a p =
        at-kind e k (array item) a q (with-array higher.SortBy (array item) item given gate (plainly (sorting false) (array item) (λ rs x. refl) taken (sorted-yields e false item answer f) typed) v h a p)
    folds higher.Reduce k q gate typed v h a p = absurd q

    -- `sortBy` with a direction
    sorted-towards : (known : Literals) (v w : Value) → AreKnown known (v ∷ w ∷ []) → Of string w → CoversEffect e (effect_under (direction_at 1) known) → (k : Kind) → FoldGives e higher.SortBy item answer k → (given || runs_alone higher.SortBy) ≡ true
        → asking (bind_kind hash item s) item answer → HasKind (array item) v → Yields e (Of k) (AllowsHigherOrder higher.SortBy (v ∷ w ∷ []) given asks)
    sorted-towards known v w are text covers k (f, q) gate typed h a p =
        at-kind e k (array item) a q (with-array_and higher.SortBy (array item) item given gate w (λ xs each.
        towards xs each (direction_named (string_of w)) (ResultIs-under (effect_under (direction_at 1) known) e (λ (down : Bool). Unit {0}) (λ (down : Bool). Unit {0}) (λ u i. i) covers (direction_named (string_of w)) (direction-known known (v ∷ w ∷ []) are 1 w refl text))) v h a p)
      where
        towards : (xs : List Value) → Each (Of item) xs → (r : Result Bool ErrorKind) → ResultIs e (λ (down : Bool). Unit {0}) r → Yields e (Of (array item)) (RunOf (sort_in_direction xs r))
        towards xs each (Ok down) d = plainly (sorting down) (array item) (λ rs x. refl) taken (sorted-yields e down item answer f) typed xs each
        towards xs each (Err g) d = same-yields e (Of (array item)) (Err g) d

    -- `reduce`
    module _ (k : Kind) (typed : asking (accumulating k item s) item answer) (fits : Fits answer k) where
      results-fit : (rs : List ItemAnswer) → Each (Good item answer) rs → Each (λ r. HasKind k r.1) rs
      results-fit rs good = Each-weaker (λ r. HasKind answer r.1) (λ r. HasKind k r.1) (λ r. fits r.1) rs (answers-good item answer rs good)

      reduced : (init : Value) (first : ℕ) → HasKind k init → (xs : List Value) → Each (Of item) xs → Yields e (Of k) (FoldMayReturn (reducing init first) asks xs [])
      reduced init first h =
          from-start e (reducing init first) asks item answer k (λ rs x g i. after-acc item answer k typed (first + length rs) (acc_after init rs) (acc-kind k init h rs (results-fit rs g)) x i) taken (λ rs good.
          value-yields e (Of k) (acc_after init rs) (acc-kind k init h rs (results-fit rs good)))

      reduced-from_first : Fits item k → CoversEffect e failing → (xs : List Value) → Each (Of item) xs → Yields e (Of k) (RunOf (reduce_from_first xs))
      reduced-from_first first_fits covers [] each = same-yields e (Of k) (Err evaluation) (admitted e covers)
      reduced-from_first first_fits covers (x ∷ xs) each = reduced x 1 (first_fits x each.0) xs each.1

  one_value : (k : Kind) (vs : List Value) → HaveKinds (k ∷ []) vs → (v : Value) × (vs ≡ v ∷ []) × HasKind k v
  one_value k [] h = absurd h
  one_value k (v ∷ []) h = (v, refl, h.0)
  one_value k (v ∷ w ∷ more) h = absurd h.1

  two_values : (j k : Kind) (vs : List Value) → HaveKinds (j ∷ k ∷ []) vs → (v : Value) × (w : Value) × (vs ≡ v ∷ w ∷ []) × HasKind j v × HasKind k w
  two_values j k [] h = absurd h
  two_values j k (v ∷ []) h = absurd h.1
  two_values j k (v ∷ w ∷ []) h = (v, w, refl, h.0, h.1.0)
  two_values j k (v ∷ w ∷ x ∷ more) h = absurd h.1.1

  -- with a predicate, each of them runs
  gate-of : (b : HigherOrderCall) (given : Bool) → given ≡ true → (given || runs_alone b) ≡ true
  gate-of b given q = ap (λ g. g || runs_alone b) q

  module _ (known : Literals) (given : Bool) (k : Kind) where
    abbrev Called : HigherOrderCall → List Value → Type 0
    Called b vs = Yields e (Of k) (AllowsHigherOrder b vs given asks)

    reduce-yields : (item answer : Kind) (ks : List Kind) → given ≡ true → StartsAs e k item ks → asking (accumulating k item s) item answer → Fits answer k → (vs : List Value) → HaveKinds ks vs → Called higher.Reduce vs
    reduce-yields item answer [] gate start typed fits vs h = absurd start
    reduce-yields item answer (xs ∷ []) gate (is, first_fits, covers) typed fits vs h =
        let one = one_value (array item) vs (subst (λ j. HaveKinds (j ∷ []) vs) is h) in
        subst (Called higher.Reduce) (sym one.1)
        (with-array higher.Reduce k item given (gate-of higher.Reduce given gate) (reduced-from_first item answer given k typed fits first_fits covers) one.0 one.2)
    reduce-yields item answer (xs ∷ init ∷ []) gate (is, init_fits) typed fits vs h =
        let two = two_values (array item) init vs (subst (λ j. HaveKinds (j ∷ init ∷ []) vs) is h) in
        subst (Called higher.Reduce) (sym two.2)
        (with-array_and higher.Reduce k item given (gate-of higher.Reduce given gate) two.1 (reduced item answer given k typed fits two.1 0 (init_fits two.1 two.4)) two.0 two.3)
    reduce-yields item answer (xs ∷ init ∷ j ∷ more) gate start typed fits vs h = absurd start

    sort-yields : (item answer : Kind) (ks : List Kind) → given ≡ true → IsDirected e known item ks → asking (bind_kind hash item s) item answer → FoldGives e higher.SortBy item answer k → (vs : List Value) → HaveKinds ks vs → AreKnown known vs → Called higher.SortBy vs
    sort-yields item answer [] gate start typed gives vs h are = absurd start
    sort-yields item answer (xs ∷ []) gate is typed gives vs h are =
        let one = one_value (array item) vs (subst (λ j. HaveKinds (j ∷ []) vs) is h) in
        subst (Called higher.SortBy) (sym one.1) (folds item answer given higher.SortBy k gives (gate-of higher.SortBy given gate) typed one.0 one.2)
    sort-yields item answer (xs ∷ d ∷ []) gate (is, text, covers) typed gives vs h are =
        let two = two_values (array item) d vs (subst (λ j. HaveKinds (j ∷ d ∷ []) vs) is h) in
        subst (Called higher.SortBy) (sym two.2)
        (sorted-towards item answer given known two.0 two.1 (subst (λ us. AreKnown known us) two.2 are) (text two.1 two.4) covers k gives (gate-of higher.SortBy given gate) typed two.3)
    sort-yields item answer (xs ∷ d ∷ j ∷ more) gate start typed gives vs h are = absurd start

    plain-yields : (b : HigherOrderCall) (ks : List Kind)
        → ((item : Kind) × (answer : Kind) × (ks ≡ array item ∷ []) × ((given || runs_alone b) ≡ true) × asking (asked b item s) item answer × FoldGives e b item answer k)
        → (vs : List Value) → HaveKinds ks vs → Called b vs
    plain-yields b ks (item, answer, is, gate, typed, gives) vs h =
        let one = one_value (array item) vs (subst (λ js. HaveKinds js vs) is h) in
        subst (Called b) (sym one.1) (folds item answer given b k gives gate typed one.0 one.2)

    pub higher-order-yields : (b : HigherOrderCall) (ks : List Kind) → HigherOrderGives e s b known ks given asking k → (vs : List Value) → HaveKinds ks vs → AreKnown known vs → Called b vs
    higher-order-yields higher.Reduce ks (item, answer, gate, start, typed, fits) vs h are = reduce-yields item answer ks gate start typed fits vs h
    higher-order-yields higher.SortBy ks (item, answer, gate, start, typed, gives) vs h are = sort-yields item answer ks gate start typed gives vs h are
    higher-order-yields higher.All ks q vs h are = plain-yields higher.All ks q vs h
    higher-order-yields higher.Any ks q vs h are = plain-yields higher.Any ks q vs h
    higher-order-yields higher.NoneOf ks q vs h are = plain-yields higher.NoneOf ks q vs h
    higher-order-yields higher.One ks q vs h are = plain-yields higher.One ks q vs h
    higher-order-yields higher.Map ks q vs h are = plain-yields higher.Map ks q vs h
    higher-order-yields higher.Filter ks q vs h are = plain-yields higher.Filter ks q vs h
    higher-order-yields higher.Find ks q vs h are = plain-yields higher.Find ks q vs h
    higher-order-yields higher.FindIndex ks q vs h are = plain-yields higher.FindIndex ks q vs h
    higher-order-yields higher.FindLast ks q vs h are = plain-yields higher.FindLast ks q vs h
    higher-order-yields higher.FindLastIndex ks q vs h are = plain-yields higher.FindLastIndex ks q vs h
    higher-order-yields higher.Count ks q vs h are = plain-yields higher.Count ks q vs h
    higher-order-yields higher.Sum ks q vs h are = plain-yields higher.Sum ks q vs h
    higher-order-yields higher.GroupBy ks q vs h are = plain-yields higher.GroupBy ks q vs h
