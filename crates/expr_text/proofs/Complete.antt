-- Each program that a text has has a text.
use Rattle.std.proofs.Common.{◌≡◌, ℕ, ◌||◌, Bool, true, false, cond, not, List, [], ◌∷◌, ◌++◌, map, Option, Some, None, bytes_eq, refl, sym, ap, ◌∙◌, subst, is_some, if◌then◌else◌}
use Rattle.std.specs.List.{list_all, list_any, AllByRecursion}
use Rattle.std.specs.Map.{keys_of}
use Rattle.std.specs.Cmp.Lexicographic.{nat_list_eq_equiv}
use Rattle.std.proofs.lemmas.Bool.{and_parts, and_from, or_left, or_right, or_parts, or_from, cond-true, cond-false, false≢true, not_from_false, not-true}
use Rattle.expr_functions.specs.Functions.{higher_order_named}
use Rattle.expr_functions.specs.declared.functions.HigherOrderCall.{HigherOrderCall}
use Rattle.expr_value.specs.Names.{put, put_all}
use Rattle.expr_value.specs.declared.value.Value.{Value, roll-Value, map-Value, fold-roll-Value}
use Rattle.expr_value.specs.declared.value.Value.TheOpen.{Value-F}
use Rattle.expr_value.specs.declared.value.Value.TheVariants as value
use Rattle.expr_tokens.specs.Tokens.{is_word}
use Rattle.expr_tokens.specs.declared.token.Token.{Token}
use Rattle.expr_tokens.proofs.Words.{reserved_is_word}
use Rattle.expr_tree.specs.Term.{Term, literal, Predicate, no_predicate, predicate, answers, LineTerms, block_with, term_pairs}
use Rattle.expr_tree.specs.TermOf.{terms_of}
use Rattle.expr_parts.specs.Maps.{map_term, has_expression, literal_pairs}
use Rattle.expr_parts.specs.Promotion.{has_free_hash, Promotion, reduces, last_promotion, reducer_promotion, promoted_by, promotion_of, call_of}
use Rattle.expr_tokens.specs.Grammar.{Word, Usual, ReservedWord, Constant, True, False, Nil, Integer, Quoted, Raw, Bytes, EntryRow, OneEntry, MoreEntries, Entries, NoEntries, SomeEntries, Tree, Literal, Name, HashName, Field, Paren, Array, Map, Call, If, Prefix, Infix, Member, Method, Index, Slice, Pipe, Ternary, Items, NoItems, SomeItems, Row, One, More, Arguments, NoArguments, SomeArguments, ArgumentRow, OneArgument, MoreArguments, Argument, Expression, Braces, Bound, LeftOut, At, ElsePart, Else, ElseIf, TreeProgram, Program, Lines, NoLines, MoreLines, word_token, constant_token, infix_tokens, tokens_of, items_tokens, row_tokens, entries_tokens, entry_row_tokens, arguments_tokens, argument_row_tokens, argument_tokens, bound_tokens, else_tokens, program_tokens, lines_tokens, index_tokens}
use Rattle.expr_parts.specs.declared.frame.Meaning.{Meaning}
use Rattle.expr_parts.specs.declared.frame.Meaning.TheVariants as meaning
use Rattle.expr_parts.specs.Programs.{word_text, constant_value, infix_meaning, infix_term, else_before, tree_term, items_terms, row_terms, entries_pairs, entry_row_pairs, argument_terms, argument_row_terms, expression_terms, last_predicate, last_predicate_in_row, argument_predicate, bound_term, else_block, program_of, line_terms}
use Rattle.expr_tokens.specs.Printed.{are_distinct}
use Rattle.expr_tree.specs.Children.{term_list}
use Rattle.expr_text.specs.Texts.{is_free_word, literal_has_text_layer, literal_has_text, is_no_predicate, promotes_none, pair_list, is_call_term, has_text, bound_has_text, terms_have_text, pairs_have_text, predicate_has_text, block_has_text, token_has_text}
use Rattle.expr_text.proofs.Distinct.{Named}
use Rattle.expr_text.proofs.Same.{kept_by}

-- tokens that can be written
abbrev pub Written : List Token → Type 0
Written ts = AllByRecursion (λ t. token_has_text t ≡ true) ts

pub front : (xs ys : List Token) → Written (xs ++ ys) → Written xs
front [] ys h = tt
front (x ∷ xs) ys h = (h.0, front xs ys h.1)

pub back : (xs ys : List Token) → Written (xs ++ ys) → Written ys
back [] ys h = h
back (x ∷ xs) ys h = back xs ys h.1

-- terms that have a text
abbrev HaveText : List Term → Type 0
HaveText ts = AllByRecursion (λ t. has_text t ≡ true) ts

abbrev PairsHaveText : LineTerms → Type 0
PairsHaveText ps = AllByRecursion (λ (p : List ℕ × Term). has_text p.1 ≡ true) ps

abbrev LineHasText : List ℕ × Term → Type 0
LineHasText l = (is_free_word l.0 ≡ true) × (has_text l.1 ≡ true)

abbrev PredicateHasText : Predicate → Type 0
PredicateHasText no_predicate = Unit {0}
PredicateHasText (predicate b) = block_has_text b ≡ true

module _ {A : Type 0} (P : A → Type 0) where
  all_both : (xs ys : List A) → AllByRecursion P xs → AllByRecursion P ys → AllByRecursion P (xs ++ ys)
  all_both [] ys h g = g
  all_both (x ∷ xs) ys h g = (h.0, all_both xs ys h.1 g)

terms_text : (ts : List Term) → HaveText ts → terms_have_text (terms_of ts) ≡ true
terms_text [] h = refl
terms_text (t ∷ ts) h = and_from _ _ h.0 (terms_text ts h.1)

list_back : (ts : List Term) → term_list (terms_of ts) ≡ ts
list_back [] = refl
list_back (t ∷ ts) = ap (λ l. t ∷ l) (list_back ts)

pairs_text : (ps : LineTerms) → PairsHaveText ps → pairs_have_text (term_pairs ps) ≡ true
pairs_text [] h = refl
pairs_text (p ∷ ps) h = and_from _ _ h.0 (pairs_text ps h.1)

pair_list_back : (ps : LineTerms) → pair_list (term_pairs ps) ≡ ps
pair_list_back [] = refl
pair_list_back (p ∷ ps) = ap (λ l. p ∷ l) (pair_list_back ps)

block_text : (ls : LineTerms) (t : Term) → AllByRecursion LineHasText ls → has_text t ≡ true → block_has_text (block_with ls t) ≡ true
block_text [] t h g = g
block_text (l ∷ ls) t h g = and_from _ _ h.0.0 (and_from _ _ h.0.1 (block_text ls t h.1 g))

-- words
pub word_is_word : (w : Word) → token_has_text (word_token w) ≡ true → is_word (word_text w) ≡ true
word_is_word (Usual w) h = (and_parts _ _ h).0
word_is_word (ReservedWord r) h = reserved_is_word r

-- literals
at_layer : (y : Value-F Value) → literal_has_text_layer (map-Value Value Bool literal_has_text y) ≡ true → literal_has_text (roll-Value y) ≡ true
at_layer y h = fold-roll-Value Bool literal_has_text_layer y ∙ h

constant_text : (c : Constant) → token_has_text (constant_token c) ≡ true → literal_has_text (constant_value c) ≡ true
unfolding roll-Value denote.Hole.Carrier.roll
constant_text True h = at_layer (Value-F.Bool true) refl
constant_text False h = at_layer (Value-F.Bool false) refl
constant_text Nil h = at_layer Value-F.Nil refl
constant_text (Integer (Some n)) h = at_layer (Value-F.Integer n) h
constant_text (Integer None) h = absurd (false≢true h)
constant_text (Quoted s) h = at_layer (Value-F.String s) refl
constant_text (Raw s) h = at_layer (Value-F.String s) refl
constant_text (Bytes s) h = at_layer (Value-F.Bytes s) h

string_text : (s : List ℕ) → literal_has_text (value.String s) ≡ true
unfolding roll-Value denote.Hole.Carrier.roll
string_text s = at_layer (Value-F.String s) refl

-- maps of literals
abbrev ValuesHaveText : List Named → Type 0
ValuesHaveText vs = AllByRecursion (λ (p : Named). literal_has_text p.1 ≡ true) vs

not_in_put : (k j : List ℕ) (v : Value) (ps : List Named) → bytes_eq j k ≡ false → list_any (bytes_eq j) (keys_of ps) ≡ false → list_any (bytes_eq j) (keys_of (put k v ps)) ≡ false
not_in_put k j v [] e h = ap (λ b. b || false) e
not_in_put k j v (p ∷ ps) e h = by (not_in_put k j v ps e) (bytes_eq k p.0) (λ _. bytes_eq k p.0)
  where
    parts : (bytes_eq j p.0 ≡ false) × (list_any (bytes_eq j) (keys_of ps) ≡ false)
    parts = or_parts _ _ h

    by : (list_any (bytes_eq j) (keys_of ps) ≡ false → list_any (bytes_eq j) (keys_of (put k v ps)) ≡ false) → (b : Bool) → bytes_eq k p.0 ≡ b → list_any (bytes_eq j) (keys_of (put k v (p ∷ ps))) ≡ false
    by later true f = ap (λ b. list_any (bytes_eq j) (keys_of (cond b ((p.0, v) ∷ ps) (p ∷ put k v ps)))) f ∙ h
    by later false f = ap (λ b. list_any (bytes_eq j) (keys_of (cond b ((p.0, v) ∷ ps) (p ∷ put k v ps)))) f ∙ or_from _ _ parts.0 (later parts.1)

put_distinct : (k : List ℕ) (v : Value) (ps : List Named) → are_distinct (keys_of ps) ≡ true → are_distinct (keys_of (put k v ps)) ≡ true
put_distinct k v [] h = refl
put_distinct k v (p ∷ ps) h = by (put_distinct k v ps) (bytes_eq k p.0) (λ _. bytes_eq k p.0)
  where
    parts : (not (list_any (bytes_eq p.0) (keys_of ps)) ≡ true) × (are_distinct (keys_of ps) ≡ true)
    parts = and_parts _ _ h

    by : (are_distinct (keys_of ps) ≡ true → are_distinct (keys_of (put k v ps)) ≡ true) → (b : Bool) → bytes_eq k p.0 ≡ b → are_distinct (keys_of (put k v (p ∷ ps))) ≡ true
    by later true f = ap (λ b. are_distinct (keys_of (cond b ((p.0, v) ∷ ps) (p ∷ put k v ps)))) f ∙ h
    by later false f =
        ap (λ b. are_distinct (keys_of (cond b ((p.0, v) ∷ ps) (p ∷ put k v ps)))) f
        ∙ and_from _ _ (not_from_false _ (not_in_put k p.0 v ps (nat_list_eq_equiv.symm p.0 k ∙ f) (not-true _ parts.0))) (later parts.1)

put_text : (k : List ℕ) (v : Value) (ps : List Named) → literal_has_text v ≡ true → ValuesHaveText ps → ValuesHaveText (put k v ps)
put_text k v [] g h = (g, tt)
put_text k v (p ∷ ps) g h = by (put_text k v ps g) (bytes_eq k p.0) (λ _. bytes_eq k p.0)
  where
    by : (ValuesHaveText ps → ValuesHaveText (put k v ps)) → (b : Bool) → bytes_eq k p.0 ≡ b → ValuesHaveText (put k v (p ∷ ps))
    by later true f = subst (λ b. ValuesHaveText (cond b ((p.0, v) ∷ ps) (p ∷ put k v ps))) (sym f) (g, h.1)
    by later false f = subst (λ b. ValuesHaveText (cond b ((p.0, v) ∷ ps) (p ∷ put k v ps))) (sym f) (h.0, later h.1)

all_put : (done ps : List Named) → are_distinct (keys_of done) ≡ true → ValuesHaveText done → ValuesHaveText ps → (are_distinct (keys_of (put_all done ps)) ≡ true) × ValuesHaveText (put_all done ps)
all_put done [] d h g = (d, h)
all_put done (p ∷ ps) d h g = all_put (put p.0 p.1 done) ps (put_distinct p.0 p.1 done d) (put_text p.0 p.1 done g.0 h) g.1

literals_text : (ps : LineTerms) → PairsHaveText ps → ValuesHaveText (literal_pairs ps)
literals_text [] h = tt
literals_text (p ∷ ps) h = by p.1 (literals_text ps h.1) h.0
  where
    by : (t : Term) → ValuesHaveText (literal_pairs ps) → has_text t ≡ true → ValuesHaveText (literal_pairs ((p.0, t) ∷ ps))
    by (literal v) later g = (g, later)
    by t later g = later

all_true : (vs : List Named) → ValuesHaveText vs → list_all (λ (p : List ℕ × Bool). p.1) (map (λ (p : Named). (p.0, literal_has_text p.1)) vs) ≡ true
all_true [] h = refl
all_true (v ∷ vs) h = and_from _ _ h.0 (all_true vs h.1)

keys_of_map : (vs : List Named) → keys_of (map (λ (p : Named). (p.0, literal_has_text p.1)) vs) ≡ keys_of vs
keys_of_map [] = refl
keys_of_map (v ∷ vs) = ap (λ l. v.0 ∷ l) (keys_of_map vs)

map_value_text : (vs : List Named) → are_distinct (keys_of vs) ≡ true → ValuesHaveText vs → literal_has_text (value.Map vs) ≡ true
unfolding roll-Value denote.Hole.Carrier.roll
map_value_text vs d h = at_layer (Value-F.Map vs) (and_from _ _ (ap are_distinct (keys_of_map vs) ∙ d) (all_true vs h))

map_text : (ps : LineTerms) → PairsHaveText ps → has_text (map_term ps) ≡ true
map_text ps h = by (has_expression ps) (λ _. has_expression ps)
  where
    by : (b : Bool) → has_expression ps ≡ b → has_text (map_term ps) ≡ true
    by true e = ap has_text (cond-true _ _ _ e) ∙ and_from _ _ (ap has_expression (pair_list_back ps) ∙ e) (pairs_text ps h)
    by false e = let made = all_put [] (literal_pairs ps) refl tt (literals_text ps h) in ap has_text (cond-false _ _ _ e) ∙ map_value_text _ made.0 made.1

-- promotion
abbrev PromotionHasText : Promotion → Type 0
PromotionHasText p = HaveText p.arguments × PredicateHasText p.program

promoted_one : (t : Term) (b : Bool) → has_text t ≡ true → PromotionHasText (if b then record { arguments = []; program = predicate (answers t) } else record { arguments = t ∷ []; program = no_predicate })
promoted_one t true h = (tt, h)
promoted_one t false h = ((h, tt), tt)

last_text : (ts : List Term) → HaveText ts → PromotionHasText (last_promotion ts)
last_text [] h = (tt, tt)
last_text (t ∷ []) h = promoted_one t (has_free_hash t) h.0
last_text (t ∷ u ∷ ts) h = let rest = last_text (u ∷ ts) h.1 in ((h.0, rest.0), rest.1)

reducer_text_by : (t u : Term) (ts : List Term) (b c : Bool) → HaveText (t ∷ u ∷ ts)
    → PromotionHasText (if b then record { arguments = t ∷ ts; program = predicate (answers u) } else (if c then record { arguments = u ∷ ts; program = predicate (answers t) } else record { arguments = t ∷ u ∷ ts; program = no_predicate }))
reducer_text_by t u ts true c h = ((h.0, h.1.1), h.1.0)
reducer_text_by t u ts false true h = (h.1, h.0)
reducer_text_by t u ts false false h = (h, tt)

reducer_text : (ts : List Term) → HaveText ts → PromotionHasText (reducer_promotion ts)
reducer_text [] h = (tt, tt)
reducer_text (t ∷ []) h = promoted_one t (has_free_hash t) h.0
reducer_text (t ∷ u ∷ ts) h = reducer_text_by t u ts (has_free_hash u) (has_free_hash t) h

promoted_text_by : (ts : List Term) (b c : Bool) → HaveText ts → PromotionHasText (if b then reducer_promotion ts else (if c then last_promotion ts else record { arguments = ts; program = no_predicate }))
promoted_text_by ts true c h = reducer_text ts h
promoted_text_by ts false true h = last_text ts h
promoted_text_by ts false false h = (h, tt)

promoted_text : (o : Option HigherOrderCall) (ts : List Term) → HaveText ts → PromotionHasText (promoted_by o ts)
promoted_text o ts h = promoted_text_by ts (reduces o) (is_some o) h

module _ (key : List ℕ) (word : is_free_word key ≡ true) (ts : List Term) (h : HaveText ts) where
  promoted_call_text : (p : Predicate) → (promotion_of key ts).program ≡ p → predicate_has_text (promotes_none key (terms_of (promotion_of key ts).arguments)) p ≡ true
  promoted_call_text no_predicate e =
      let same = kept_by (higher_order_named key) ts (ap is_no_predicate e) in
      let back : term_list (terms_of (promotion_of key ts).arguments) ≡ ts = list_back _ ∙ ap (λ (p : Promotion). p.arguments) same in
      ap (λ (xs : List Term). is_no_predicate (promotion_of key xs).program) back ∙ ap is_no_predicate e
  promoted_call_text (predicate b) e = subst PredicateHasText e (promoted_text (higher_order_named key) ts h).1

  call_text : (p : Predicate) → PredicateHasText p → has_text (call_of key ts p) ≡ true
  call_text (predicate b) g = and_from _ _ word (and_from _ _ (terms_text ts h) g)
  call_text no_predicate g = and_from _ _ word (and_from _ _ (terms_text _ (promoted_text (higher_order_named key) ts h).0) (promoted_call_text _ (λ _. (promotion_of key ts).program)))

call_is_call : (key : List ℕ) (ts : List Term) (p : Predicate) → is_call_term (call_of key ts p) ≡ true
call_is_call key ts (predicate b) = refl
call_is_call key ts no_predicate = refl

infix_text : (m : Meaning) (l r : Term) → has_text l ≡ true → has_text r ≡ true → has_text (infix_term m l r) ≡ true
infix_text (meaning.Operator o) l r h g = and_from _ _ h g
infix_text meaning.Range l r h g = and_from _ _ h g
infix_text meaning.Default l r h g = and_from _ _ h g

predicate_before : (p q : Predicate) → PredicateHasText p → PredicateHasText q → PredicateHasText (else_before p q)
predicate_before no_predicate q h g = g
predicate_before (predicate b) q h g = h

mutual
  pub tree_text : (t : Tree) → Written (tokens_of t) → has_text (tree_term t) ≡ true
  tree_text (Literal c) h = constant_text c h.0
  tree_text (Name w) h = or_right _ _ h.0
  tree_text (HashName w) h = or_left _ _ h.0
  tree_text (Field w) h = string_text (word_text w)
  tree_text (Paren t) h = tree_text t (front (tokens_of t) _ h.1)
  tree_text (Array xs) h = terms_text (items_terms xs) (items_text xs (front (items_tokens xs) _ h.1))
  tree_text (Map es) h = map_text (entries_pairs es) (entries_text es (front (entries_tokens es) _ h.1))
  tree_text (Call w xs) h = let g = arguments_text xs (front (arguments_tokens xs) _ h.1.1) in call_text w h.0 (argument_terms xs) g.0 (last_predicate xs) g.1
  tree_text (If c a e) h =
      let g = back (tokens_of c) _ h.1 in
      and_from _ _ (tree_text c (front (tokens_of c) _ h.1)) (and_from _ _ (program_text a (front (program_tokens a) _ g.1)) (else_text e (back (program_tokens a) _ g.1).1.1))
  tree_text (Prefix o t) h = tree_text t h.1
  tree_text (Infix o l r) h = infix_text (infix_meaning o) _ _ (tree_text l (front (tokens_of l) _ h)) (tree_text r (back (infix_tokens o) _ (back (tokens_of l) _ h)))
  tree_text (Member l optional w) h = and_from _ _ (tree_text l (front (tokens_of l) _ h)) (string_text (word_text w))
  tree_text (Method l w xs) h =
      let g = back (tokens_of l) _ h in
      and_from _ _ (tree_text l (front (tokens_of l) _ h)) (and_from _ _ (word_is_word w g.1.0) (terms_text (items_terms xs) (items_text xs (front (items_tokens xs) _ g.1.1.1))))
  tree_text (Index l optional i) h =
      and_from _ _ (tree_text l (front (tokens_of l) _ h)) (tree_text i (front (tokens_of i) _ (back (index_tokens optional) _ (back (tokens_of l) _ h))))
  tree_text (Slice l a b) h =
      let g = back (tokens_of l) _ h in
      and_from _ _ (tree_text l (front (tokens_of l) _ h)) (and_from _ _ (bound_text a (front (bound_tokens a) _ g.1)) (bound_text b (front (bound_tokens b) _ (back (bound_tokens a) _ g.1).1)))
  tree_text (Pipe l w xs) h =
      let g = back (tokens_of l) _ h in
      let k = arguments_text xs (front (arguments_tokens xs) _ g.1.1.1) in
      and_from _ _ (tree_text l (front (tokens_of l) _ h)) (and_from _ _ (call_is_call w (argument_terms xs) (last_predicate xs)) (call_text w g.1.0 (argument_terms xs) k.0 (last_predicate xs) k.1))
  tree_text (Ternary c a b) h =
      let g = back (tokens_of c) _ h in
      and_from _ _ (tree_text c (front (tokens_of c) _ h)) (and_from _ _ (tree_text a (front (tokens_of a) _ g.1)) (tree_text b (back (tokens_of a) _ g.1).1))

  pub items_text : (xs : Items) → Written (items_tokens xs) → HaveText (items_terms xs)
  items_text NoItems h = tt
  items_text (SomeItems r comma) h = row_text r (front (row_tokens r) _ h)

  pub row_text : (r : Row) → Written (row_tokens r) → HaveText (row_terms r)
  row_text (One t) h = (tree_text t h, tt)
  row_text (More r t) h = all_both (λ (x : Term). has_text x ≡ true) (row_terms r) _ (row_text r (front (row_tokens r) _ h)) (tree_text t (back (row_tokens r) _ h).1, tt)

  pub entries_text : (es : Entries) → Written (entries_tokens es) → PairsHaveText (entries_pairs es)
  entries_text NoEntries h = tt
  entries_text (SomeEntries r comma) h = entry_row_text r (front (entry_row_tokens r) _ h)

  pub entry_row_text : (r : EntryRow) → Written (entry_row_tokens r) → PairsHaveText (entry_row_pairs r)
  entry_row_text (OneEntry key t) h = (tree_text t h.1.1, tt)
  entry_row_text (MoreEntries r key t) h =
      all_both (λ (p : List ℕ × Term). has_text p.1 ≡ true) (entry_row_pairs r) _ (entry_row_text r (front (entry_row_tokens r) _ h)) (tree_text t (back (entry_row_tokens r) _ h).1.1.1, tt)

  pub arguments_text : (xs : Arguments) → Written (arguments_tokens xs) → HaveText (argument_terms xs) × PredicateHasText (last_predicate xs)
  arguments_text NoArguments h = (tt, tt)
  arguments_text (SomeArguments r comma) h = argument_row_text r (front (argument_row_tokens r) _ h)

  pub argument_row_text : (r : ArgumentRow) → Written (argument_row_tokens r) → HaveText (argument_row_terms r) × PredicateHasText (last_predicate_in_row r)
  argument_row_text (OneArgument a) h = argument_text a h
  argument_row_text (MoreArguments r a) h =
      let first = argument_row_text r (front (argument_row_tokens r) _ h) in
      let last = argument_text a (back (argument_row_tokens r) _ h).1 in
      (all_both (λ (x : Term). has_text x ≡ true) (argument_row_terms r) _ first.0 last.0, predicate_before (argument_predicate a) (last_predicate_in_row r) last.1 first.1)

  pub argument_text : (a : Argument) → Written (argument_tokens a) → HaveText (expression_terms a) × PredicateHasText (argument_predicate a)
  argument_text (Expression t) h = ((tree_text t h, tt), tt)
  argument_text (Braces p) h = (tt, program_text p (front (program_tokens p) _ h.1))

  pub bound_text : (x : Bound) → Written (bound_tokens x) → bound_has_text (bound_term x) ≡ true
  bound_text LeftOut h = refl
  bound_text (At t) h = tree_text t h

  pub else_text : (e : ElsePart) → Written (else_tokens e) → block_has_text (else_block e) ≡ true
  else_text (Else b) h = program_text b (front (program_tokens b) _ h.1)
  else_text (ElseIf c a e) h =
      let g = back (tokens_of c) _ h.1 in
      and_from _ _ (tree_text c (front (tokens_of c) _ h.1)) (and_from _ _ (program_text a (front (program_tokens a) _ g.1)) (else_text e (back (program_tokens a) _ g.1).1.1))

  pub program_text : (p : TreeProgram) → Written (program_tokens p) → block_has_text (program_of p) ≡ true
  program_text (Program ls t) h = block_text (line_terms ls) (tree_term t) (lines_text ls (front (lines_tokens ls) _ h)) (tree_text t (back (lines_tokens ls) _ h))

  pub lines_text : (ls : Lines) → Written (lines_tokens ls) → AllByRecursion LineHasText (line_terms ls)
  lines_text NoLines h = tt
  lines_text (MoreLines ls w t) h =
      let g = back (lines_tokens ls) _ h in
      all_both LineHasText (line_terms ls) _ (lines_text ls (front (lines_tokens ls) _ h)) ((g.1.0, tree_text t (front (tokens_of t) _ g.1.1.1)), tt)
