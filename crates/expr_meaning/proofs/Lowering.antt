-- The code that is a function of a program is a code of it.
use Rattle.std.proofs.Common.{◌≡◌, ℕ, suc, ◌+◌, List, [], ◌∷◌, ◌++◌, length, length-append, append_assoc, append-nil, map, Some, refl, sym, ap, ◌∙◌, subst}
use Rattle.std.specs.Prelude.{slice_get}
use Rattle.expr_functions.specs.Strictness.{operator_strictness}
use Rattle.expr_functions.specs.declared.strictness.Strictness.{Strictness}
use Rattle.expr_functions.specs.declared.strictness.Strictness.TheVariants.{Both, EndsAtFalse, EndsAtTrue, Pattern}
use Rattle.expr_tree.specs.Term.{Term, name, literal, list, mapping, range, call, unary, operation, postfix, choice, Postfix, index, slice, coalesce, pipe, ternary, method, Bound, unbounded, bound, Terms, no_terms, term, TermPairs, pairs_end, pair, Predicate, no_predicate, predicate, Block, answers, line}
use Rattle.expr_functions.specs.declared.operator.Operator.{Operator}
use Rattle.expr_code.specs.Codes as is
use Rattle.expr_code.specs.Codes.{SlotNames, Programs, AreCodes, IsCode, IsCallOp, TermCode, PostfixCode, TermsCode, PairsCode, BlockCode, count_terms}
use Rattle.expr_meaning.specs.Lowered.{predicate_programs, postfix_predicate_programs, bound_predicate_programs, piped_predicate_programs, all_predicate_programs, pairs_predicate_programs, call_predicate_programs, block_predicate_programs, call_op, operation_code, code, postfix_code, piped_code, all_code, pairs_code, block_code, inner, code_of_block}
use Rattle.expr_code.specs.Instructions.{Op}

-- these programs are a part of the later ones, at this position
pub record IsPartAt (later : Programs) (k : ℕ) (part : Programs) : Type 0 where
  pub before : Programs
  pub after : Programs
  pub whole : later ≡ before ++ (part ++ after)
  pub place : length before ≡ k

front : (later : Programs) (k : ℕ) (x y : Programs) → IsPartAt later k (x ++ y) → IsPartAt later k x
front later k x y s = record { before = s.before; after = y ++ s.after; whole = s.whole ∙ ap (λ l. s.before ++ l) (append_assoc x y s.after); place = s.place }

behind : (later : Programs) (k : ℕ) (x y : Programs) → IsPartAt later k (x ++ y) → IsPartAt later (k + length x) y
behind later k x y s = record {
  before = s.before ++ x;
  after = s.after;
  whole = s.whole ∙ ap (λ l. s.before ++ l) (append_assoc x y s.after) ∙ sym (append_assoc s.before x (y ++ s.after));
  place = length-append s.before x ∙ ap (λ n. n + length x) s.place;
}

first_at : (before : Programs) (p : SlotNames × Block) (after : Programs) → slice_get (before ++ p ∷ after) (length before) ≡ Some p
first_at [] p after = refl
first_at (q ∷ before) p after = first_at before p after

stands_at : (later : Programs) (k : ℕ) (p : SlotNames × Block) (more : Programs) → IsPartAt later k (p ∷ more) → slice_get later k ≡ Some p
stands_at later k p more s =
    ap (λ l. slice_get l k) s.whole ∙ ap (λ n. slice_get (s.before ++ (p ∷ (more ++ s.after))) n) (sym s.place) ∙ first_at s.before p (more ++ s.after)

module _ (later : Programs) where
  is_call : (k : ℕ) (scope : SlotNames) (key : List ℕ) (n : ℕ) (p : Predicate) → IsPartAt later k (call_predicate_programs scope key p) → IsCallOp later scope key n p (call_op k scope key n p)
  is_call k scope key n no_predicate s = refl
  is_call k scope key n (predicate b) s = (k, stands_at later k (inner scope key, b) (block_predicate_programs (inner scope key) b) s, refl)

  is_operated : (scope : SlotNames) (o : Operator) (l r : Term) (c d : List Op) → TermCode later scope l c → TermCode later scope r d → TermCode later scope (operation o l r) (operation_code (operator_strictness o) o c d)
  is_operated scope o l r c d x y = by (operator_strictness o) refl
    where
      by : (s : Strictness) → operator_strictness o ≡ s → TermCode later scope (operation o l r) (operation_code s o c d)
      by Both e = is.operation_code scope o l r c d (subst is.AsksBoth (sym e) tt) x y
      by Pattern e = is.operation_code scope o l r c d (subst is.AsksBoth (sym e) tt) x y
      by EndsAtFalse e = is.and_code scope o l r c d e x y
      by EndsAtTrue e = is.or_code scope o l r c d e x y

  mutual
    term_is : (t : Term) (k : ℕ) (scope : SlotNames) → IsPartAt later k (predicate_programs scope t) → TermCode later scope t (code k scope t)
    term_is (name key) k scope s = is.name_code scope key
    term_is (literal v) k scope s = is.literal_code scope v
    term_is (list ts) k scope s = is.list_code scope ts _ (all_is ts k scope s)
    term_is (mapping ps) k scope s = is.mapping_code scope ps _ (pairs_is ps k scope s)
    term_is (range l r) k scope s =
        is.range_code scope l r _ _ (term_is l k scope (front later k (predicate_programs scope l) (predicate_programs scope r) s)) (term_is r (k + length (predicate_programs scope l)) scope (behind later k (predicate_programs scope l) (predicate_programs scope r) s))
    term_is (call key ts p) k scope s =
        is.call_code scope key ts p _ _ (all_is ts k scope (front later k (all_predicate_programs scope ts) (call_predicate_programs scope key p) s)) (
        is_call (k + length (all_predicate_programs scope ts)) scope key (count_terms ts) p (behind later k (all_predicate_programs scope ts) (call_predicate_programs scope key p) s)
        )
    term_is (unary o t) k scope s = is.unary_code scope o t _ (term_is t k scope s)
    term_is (operation o l r) k scope s =
        is_operated scope o l r (code k scope l) (code (k + length (predicate_programs scope l)) scope r)
        (term_is l k scope (front later k (predicate_programs scope l) (predicate_programs scope r) s)) (term_is r (k + length (predicate_programs scope l)) scope (behind later k (predicate_programs scope l) (predicate_programs scope r) s))
    term_is (postfix p t) k scope s =
        is.postfix_code scope p t _ _ (term_is t k scope (front later k (predicate_programs scope t) (postfix_predicate_programs scope p) s)) (
        postfix_is p (k + length (predicate_programs scope t)) scope (behind later k (predicate_programs scope t) (postfix_predicate_programs scope p) s)
        )
    term_is (choice t one two) k scope s =
        let sides = behind later k (predicate_programs scope t) (block_predicate_programs scope one ++ block_predicate_programs scope two) s in
        let k1 = k + length (predicate_programs scope t) in
        is.choice_code scope t one two _ _ _ (term_is t k scope (front later k (predicate_programs scope t) (block_predicate_programs scope one ++ block_predicate_programs scope two) s)) (
        block_is one k1 scope (front later k1 (block_predicate_programs scope one) (block_predicate_programs scope two) sides)
        ) (block_is two (k1 + length (block_predicate_programs scope one)) scope (behind later k1 (block_predicate_programs scope one) (block_predicate_programs scope two) sides))

    postfix_is : (p : Postfix) (k : ℕ) (scope : SlotNames) → IsPartAt later k (postfix_predicate_programs scope p) → PostfixCode later scope p (postfix_code k scope p)
    postfix_is (index key optional) k scope s = is.index_code scope key optional _ (term_is key k scope s)
    postfix_is (slice unbounded unbounded) k scope s = is.slice_all_code scope
    postfix_is (slice (bound t) unbounded) k scope s = is.slice_from_code scope t _ (term_is t k scope (front later k (predicate_programs scope t) [] s))
    postfix_is (slice unbounded (bound t)) k scope s = is.slice_to_code scope t _ (term_is t (k + 0) scope (behind later k [] (predicate_programs scope t) s))
    postfix_is (slice (bound t) (bound u)) k scope s =
        is.slice_between_code scope t u _ _ (term_is t k scope (front later k (predicate_programs scope t) (predicate_programs scope u) s)) (term_is u (k + length (predicate_programs scope t)) scope (behind later k (predicate_programs scope t) (predicate_programs scope u) s))
    postfix_is (coalesce t) k scope s = is.coalesce_code scope t _ (term_is t k scope s)
    postfix_is (pipe t) k scope s = piped_is t k scope s
    postfix_is (ternary one two) k scope s =
        is.ternary_code scope one two _ _ (term_is one k scope (front later k (predicate_programs scope one) (predicate_programs scope two) s)) (
        term_is two (k + length (predicate_programs scope one)) scope (behind later k (predicate_programs scope one) (predicate_programs scope two) s)
        )
    postfix_is (method key ts) k scope s = is.method_code scope key ts _ (all_is ts k scope s)

    piped_is : (t : Term) (k : ℕ) (scope : SlotNames) → IsPartAt later k (piped_predicate_programs scope t) → PostfixCode later scope (pipe t) (piped_code k scope t)
    piped_is (call key ts p) k scope s =
        is.pipe_code scope key ts p _ _ (all_is ts k scope (front later k (all_predicate_programs scope ts) (call_predicate_programs scope key p) s)) (
        is_call (k + length (all_predicate_programs scope ts)) scope key (suc (count_terms ts)) p (behind later k (all_predicate_programs scope ts) (call_predicate_programs scope key p) s)
        )
    piped_is t k scope s = is.pipe_other_code scope t tt

    all_is : (ts : Terms) (k : ℕ) (scope : SlotNames) → IsPartAt later k (all_predicate_programs scope ts) → TermsCode later scope ts (all_code k scope ts)
    all_is no_terms k scope s = is.no_terms_code scope
    all_is (term t ts) k scope s =
        is.term_code scope t ts _ _ (term_is t k scope (front later k (predicate_programs scope t) (all_predicate_programs scope ts) s)) (
        all_is ts (k + length (predicate_programs scope t)) scope (behind later k (predicate_programs scope t) (all_predicate_programs scope ts) s)
        )

    pairs_is : (ps : TermPairs) (k : ℕ) (scope : SlotNames) → IsPartAt later k (pairs_predicate_programs scope ps) → PairsCode later scope ps (pairs_code k scope ps)
    pairs_is pairs_end k scope s = is.pairs_end_code scope
    pairs_is (pair key t ps) k scope s =
        is.pair_code scope key t ps _ _ (term_is t k scope (front later k (predicate_programs scope t) (pairs_predicate_programs scope ps) s)) (
        pairs_is ps (k + length (predicate_programs scope t)) scope (behind later k (predicate_programs scope t) (pairs_predicate_programs scope ps) s)
        )

    block_is : (b : Block) (k : ℕ) (scope : SlotNames) → IsPartAt later k (block_predicate_programs scope b) → BlockCode later scope b (block_code k scope b)
    block_is (answers t) k scope s = is.answers_code scope t _ (term_is t k scope s)
    block_is (line key t b) k scope s =
        is.line_code scope key t b _ _ (term_is t k scope (front later k (predicate_programs scope t) (block_predicate_programs (scope ++ key ∷ []) b) s)) (
        block_is b (k + length (predicate_programs scope t)) (scope ++ key ∷ []) (behind later k (predicate_programs scope t) (block_predicate_programs (scope ++ key ∷ []) b) s)
        )

-- programs, each before those that it asks itself
abbrev Ordered : Programs → Type 0
Ordered [] = Unit {0}
Ordered (p ∷ ps) = IsPartAt ps 0 (block_predicate_programs p.0 p.1) × Ordered ps

stands_first : (part after : Programs) → IsPartAt (part ++ after) 0 part
stands_first part after = record { before = []; after = after; whole = refl; place = refl }

joined : (x y : Programs) (after : Programs) → (Ordered after → Ordered (y ++ after)) → (Ordered (y ++ after) → Ordered (x ++ (y ++ after))) → Ordered after → Ordered ((x ++ y) ++ after)
joined x y after f g o = subst Ordered (sym (append_assoc x y after)) (g (f o))

mutual
  ordered : (t : Term) (scope : SlotNames) (after : Programs) → Ordered after → Ordered (predicate_programs scope t ++ after)
  ordered (name key) scope after o = o
  ordered (literal v) scope after o = o
  ordered (list ts) scope after o = all_ordered ts scope after o
  ordered (mapping ps) scope after o = pairs_ordered ps scope after o
  ordered (range l r) scope after o = joined (predicate_programs scope l) (predicate_programs scope r) after (λ p. ordered r scope after p) (λ p. ordered l scope (predicate_programs scope r ++ after) p) o
  ordered (call key ts p) scope after o =
      joined (all_predicate_programs scope ts) (call_predicate_programs scope key p) after (λ q. predicate_ordered p scope key after q) (λ q. all_ordered ts scope (call_predicate_programs scope key p ++ after) q) o
  ordered (unary u t) scope after o = ordered t scope after o
  ordered (operation u l r) scope after o = joined (predicate_programs scope l) (predicate_programs scope r) after (λ p. ordered r scope after p) (λ p. ordered l scope (predicate_programs scope r ++ after) p) o
  ordered (postfix p t) scope after o = joined (predicate_programs scope t) (postfix_predicate_programs scope p) after (λ q. postfix_ordered p scope after q) (λ q. ordered t scope (postfix_predicate_programs scope p ++ after) q) o
  ordered (choice t one two) scope after o =
      joined (predicate_programs scope t) (block_predicate_programs scope one ++ block_predicate_programs scope two) after (
      λ p. joined (block_predicate_programs scope one) (block_predicate_programs scope two) after (λ q. block_ordered two scope after q) (λ q. block_ordered one scope (block_predicate_programs scope two ++ after) q) p
      ) (λ p. ordered t scope ((block_predicate_programs scope one ++ block_predicate_programs scope two) ++ after) p) o

  postfix_ordered : (p : Postfix) (scope : SlotNames) (after : Programs) → Ordered after → Ordered (postfix_predicate_programs scope p ++ after)
  postfix_ordered (index key optional) scope after o = ordered key scope after o
  postfix_ordered (slice start stop) scope after o =
      joined (bound_predicate_programs scope start) (bound_predicate_programs scope stop) after (λ q. bound_ordered stop scope after q) (λ q. bound_ordered start scope (bound_predicate_programs scope stop ++ after) q) o
  postfix_ordered (coalesce t) scope after o = ordered t scope after o
  postfix_ordered (pipe t) scope after o = piped_ordered t scope after o
  postfix_ordered (ternary one two) scope after o = joined (predicate_programs scope one) (predicate_programs scope two) after (λ p. ordered two scope after p) (λ p. ordered one scope (predicate_programs scope two ++ after) p) o
  postfix_ordered (method key ts) scope after o = all_ordered ts scope after o

  bound_ordered : (b : Bound) (scope : SlotNames) (after : Programs) → Ordered after → Ordered (bound_predicate_programs scope b ++ after)
  bound_ordered unbounded scope after o = o
  bound_ordered (bound t) scope after o = ordered t scope after o

  piped_ordered : (t : Term) (scope : SlotNames) (after : Programs) → Ordered after → Ordered (piped_predicate_programs scope t ++ after)
  piped_ordered (call key ts p) scope after o =
      joined (all_predicate_programs scope ts) (call_predicate_programs scope key p) after (λ q. predicate_ordered p scope key after q) (λ q. all_ordered ts scope (call_predicate_programs scope key p ++ after) q) o
  piped_ordered t scope after o = o

  all_ordered : (ts : Terms) (scope : SlotNames) (after : Programs) → Ordered after → Ordered (all_predicate_programs scope ts ++ after)
  all_ordered no_terms scope after o = o
  all_ordered (term t ts) scope after o = joined (predicate_programs scope t) (all_predicate_programs scope ts) after (λ p. all_ordered ts scope after p) (λ p. ordered t scope (all_predicate_programs scope ts ++ after) p) o

  pairs_ordered : (ps : TermPairs) (scope : SlotNames) (after : Programs) → Ordered after → Ordered (pairs_predicate_programs scope ps ++ after)
  pairs_ordered pairs_end scope after o = o
  pairs_ordered (pair key t ps) scope after o = joined (predicate_programs scope t) (pairs_predicate_programs scope ps) after (λ p. pairs_ordered ps scope after p) (λ p. ordered t scope (pairs_predicate_programs scope ps ++ after) p) o

  predicate_ordered : (p : Predicate) (scope : SlotNames) (key : List ℕ) (after : Programs) → Ordered after → Ordered (call_predicate_programs scope key p ++ after)
  predicate_ordered no_predicate scope key after o = o
  predicate_ordered (predicate b) scope key after o = (stands_first (block_predicate_programs (inner scope key) b) after, block_ordered b (inner scope key) after o)

  block_ordered : (b : Block) (scope : SlotNames) (after : Programs) → Ordered after → Ordered (block_predicate_programs scope b ++ after)
  block_ordered (answers t) scope after o = ordered t scope after o
  block_ordered (line key t b) scope after o =
      joined (predicate_programs scope t) (block_predicate_programs (scope ++ key ∷ []) b) after (λ p. block_ordered b (scope ++ key ∷ []) after p) (λ p. ordered t scope (block_predicate_programs (scope ++ key ∷ []) b ++ after) p) o

ordered_codes : (ps : Programs) → Ordered ps → AreCodes ps (map (λ p. block_code 0 p.0 p.1) ps)
ordered_codes [] o = tt
ordered_codes (p ∷ ps) o = (block_is ps p.1 0 p.0 o.0, ordered_codes ps o.1)

pub lowered_is : (b : Block) → IsCode b (code_of_block b)
lowered_is b =
    let own = subst (λ l. IsPartAt l 0 (block_predicate_programs [] b)) (append-nil (block_predicate_programs [] b)) (stands_first (block_predicate_programs [] b) []) in
    let rest = subst Ordered (append-nil (block_predicate_programs [] b)) (block_ordered b [] [] tt) in
    record { later = block_predicate_programs [] b; codes = ordered_codes (([], b) ∷ block_predicate_programs [] b) (own, rest) }
