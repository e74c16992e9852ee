-- The program of a program's tree is that program.
use Rattle.std.proofs.Common.{◌≡◌, ℕ, suc, nat_lt, ◌||◌, pos, negsuc, Bool, true, false, List, [], ◌∷◌, ◌++◌, Option, Some, None, codes, refl, sym, ap, ◌∙◌, subst, append_assoc, append-nil, is_some}
use Rattle.std.specs.List.{list_all}
use Rattle.std.specs.Map.{keys_of}
use Rattle.std.proofs.lemmas.Bool.{and_parts, cond-true, cond-false, false≢true}
use Rattle.std.proofs.lemmas.Slice.Eq.{bytes_eq-Decides}
use Rattle.expr_functions.specs.Functions.{higher_order_named}
use Rattle.expr_functions.specs.declared.functions.HigherOrderCall.{HigherOrderCall}
use Rattle.expr_value.specs.Names.{put_all}
use Rattle.expr_value.specs.declared.value.Value.{Value, roll-Value, map-Value, fold-roll-Value}
use Rattle.expr_value.specs.declared.value.Value.TheOpen.{Value-F}
use Rattle.expr_value.specs.declared.value.Value.TheVariants as value
use Rattle.expr_tokens.specs.Lexer.{reserved_of}
use Rattle.expr_tokens.specs.Tokens.{is_word, is_hash_name}
use Rattle.expr_tokens.specs.declared.reserved.Reserved.{Reserved}
use Rattle.expr_tokens.proofs.Words.{reserved_sound}
use Rattle.expr_tree.specs.Term.{Term, name, literal, list, mapping, range, call, unary, operation, postfix, choice, Postfix, index, slice, coalesce, pipe, ternary, method, Bound as BoundTerm, unbounded, bound, Terms, no_terms, term, TermPairs, pairs_end, pair, Predicate, no_predicate, predicate, Block, answers, line, LineTerms, block_with, term_pairs}
use Rattle.expr_tree.specs.TermOf.{terms_of}
use Rattle.expr_functions.specs.declared.operator.Operator.{Operator}
use Rattle.expr_functions.specs.declared.operator.Operator.TheVariants as operator
use Rattle.expr_functions.specs.declared.operator.UnaryOperator.{UnaryOperator}
use Rattle.expr_functions.specs.declared.operator.UnaryOperator.TheVariants as prefixed
use Rattle.expr_parts.specs.Maps.{map_term, has_expression, literal_pairs}
use Rattle.expr_parts.specs.Promotion.{has_free_hash, Promotion, reduces, last_promotion, reducer_promotion, promoted_by, call_of}
use Rattle.expr_tokens.specs.declared.operator_sign.PrefixSign.{PrefixSign}
use Rattle.expr_tokens.specs.declared.operator_sign.InfixSign.{InfixSign}
use Rattle.expr_tokens.specs.declared.operator_sign.InfixSign.TheVariants as infixed
use Rattle.expr_tokens.specs.Grammar.{Word, Usual, ReservedWord, Key, EntryRow, Tree, If, Prefix, Infix, Ternary, Row, Arguments, NoArguments, SomeArguments, ArgumentRow, TreeProgram, Lines, NoLines, infix_level, prefix_level}
use Rattle.expr_parts.specs.declared.frame.Meaning.{Meaning}
use Rattle.expr_parts.specs.declared.frame.Meaning.TheVariants as meaning
use Rattle.expr_parts.specs.Programs.{word_text, entry_name, prefix_operator, infix_meaning, infix_term, member_term, tree_term, items_terms, row_terms, entries_pairs, entry_row_pairs, argument_terms, argument_row_terms, last_predicate, last_predicate_in_row, bound_term, else_block, program_of, line_terms}
use Rattle.expr_tokens.specs.Printed.{are_distinct}
use Rattle.expr_tree.specs.Children.{term_list}
use Rattle.expr_text.specs.Texts.{literal_has_text_layer, literal_has_text, is_no_predicate, promotes_none, pair_list, is_call_term, has_text, postfix_has_text, bound_has_text, terms_have_text, pairs_have_text, predicate_has_text, block_has_text}
use Rattle.expr_text.specs.Trees.{prefix_of, infix_of, infix_catch, prefix_catch, in_brackets, infix_at, prefix_at, ternary_at, piped, pipe_at, word_of, printed_key, word_of_text, member_word, is_item, member_by, index_by, entry_row_from, map_entries, truth_tree, literal_layer, literal_tree, name_tree, else_with, arguments_then, tree_at, postfix_at, bound_of, items_of, row_from, pair_trees, arguments_of, argument_row_from, arguments_with, block_from, else_of, printed_tree}
use Rattle.expr_tokens.proofs.Such.{Such, pairs_of, bare, with_each, by_layers}
use Rattle.expr_text.proofs.Distinct.{put_back}

-- a tree of this program at each place
abbrev pub Says : (ℕ → ℕ → Tree) → Term → Type 0
Says t x = (a b : ℕ) → tree_term (t a b) ≡ x

brackets_same : (needs : Bool) (a b : ℕ) (t : ℕ → ℕ → Tree) (x : Term) → Says t x → tree_term (in_brackets needs a b t) ≡ x
brackets_same true a b t x h = h 0 0
brackets_same false a b t x h = h a b

infix_same : (o : InfixSign) (l r : ℕ → ℕ → Tree) (x y : Term) → Says l x → Says r y → Says (infix_at o l r) (infix_term (infix_meaning o) x y)
infix_same o l r x y first second a b = brackets_same (nat_lt (infix_level o) a || nat_lt (infix_catch o) b) a b (λ c d. Infix o (l c (infix_level o)) (r (suc (infix_catch o)) d)) _ (λ c d i. infix_term (infix_meaning o) (first c (infix_level o) i) (second (suc (infix_catch o)) d i))

prefix_same : (o : PrefixSign) (t : ℕ → ℕ → Tree) (x : Term) → Says t x → Says (prefix_at o t) (unary (prefix_operator o) x)
prefix_same o t x h a b = brackets_same (nat_lt (prefix_catch o) b) a b (λ c d. Prefix o (t (prefix_level o) d)) _ (λ c d. ap (unary (prefix_operator o)) (h (prefix_level o) d))

ternary_same : (c : ℕ → ℕ → Tree) (first second : Tree) (x y z : Term) → Says c x → tree_term first ≡ y → tree_term second ≡ z → Says (ternary_at c first second) (postfix (ternary y z) x)
ternary_same c first second x y z h f g a b = brackets_same (nat_lt 1 a || nat_lt 0 b) a b (λ d e. Ternary (c d 1) first second) _ (λ d e i. postfix (ternary (f i) (g i)) (h d 1 i))

prefix_back : (o : UnaryOperator) → prefix_operator (prefix_of o) ≡ o
prefix_back prefixed.Not = refl
prefix_back prefixed.Positive = refl
prefix_back prefixed.Negative = refl

infix_back : (o : Operator) → infix_meaning (infix_of o) ≡ meaning.Operator o
infix_back operator.Add = refl
infix_back operator.Subtract = refl
infix_back operator.Multiply = refl
infix_back operator.Divide = refl
infix_back operator.Modulo = refl
infix_back operator.Pow = refl
infix_back operator.Equal = refl
infix_back operator.NotEqual = refl
infix_back operator.GreaterThan = refl
infix_back operator.GreaterThanOrEqual = refl
infix_back operator.LessThan = refl
infix_back operator.LessThanOrEqual = refl
infix_back operator.And = refl
infix_back operator.Or = refl
infix_back operator.In = refl
infix_back operator.NotIn = refl
infix_back operator.Contains = refl
infix_back operator.StartsWith = refl
infix_back operator.EndsWith = refl
infix_back operator.Matches = refl

-- words, keys and names
abbrev word_by : Option Reserved → List ℕ → Word
word_by o w = elim o [ Some r ↦ ReservedWord r | None ↦ Usual w ]

word_back_by : (w : List ℕ) (o : Option Reserved) → reserved_of w ≡ o → word_text (word_by o w) ≡ w
word_back_by w (Some r) e = reserved_sound w r e
word_back_by w None e = refl

pub word_back : (w : List ℕ) → word_text (word_of w) ≡ w
word_back w = word_back_by w (reserved_of w) (λ _. reserved_of w)

key_back_by : (k : List ℕ) (b : Bool) → is_word k ≡ b → entry_name (printed_key k) ≡ k
key_back_by k true e = subst (λ (x : Key). entry_name x ≡ k) (sym (cond-true _ _ _ e)) (word_back k)
key_back_by k false e = subst (λ (x : Key). entry_name x ≡ k) (sym (cond-false _ _ _ e)) refl

key_back : (k : List ℕ) → entry_name (printed_key k) ≡ k
key_back k = key_back_by k (is_word k) (λ _. is_word k)

name_back_by : (key : List ℕ) (b : Bool) → is_hash_name key ≡ b → tree_term (name_tree key) ≡ name key
name_back_by key true e = ap tree_term (cond-true _ _ _ e)
name_back_by key false e = ap tree_term (cond-false _ _ _ e)

name_back : (key : List ℕ) → tree_term (name_tree key) ≡ name key
name_back key = name_back_by key (is_hash_name key) (λ _. is_hash_name key)

-- members
none_some : {A : Type 0} (x : A) → ◌≡◌ {A = Option A} None (Some x) → ⊥
none_some x e = cc

word_of_text_is : (s w : List ℕ) (b : Bool) → is_word s ≡ b → word_of_text s ≡ Some w → s ≡ w
word_of_text_is s w true e h = let h2 = sym (cond-true (is_word s) (Some s) None e) ∙ h in cc
word_of_text_is s w false e h = absurd (none_some w (sym (cond-false (is_word s) (Some s) None e) ∙ h))

pub member_is : (key : Term) (w : List ℕ) → member_word key ≡ Some w → key ≡ literal (value.String w)
member_is (literal (value.String s)) w h = ap (λ (x : List ℕ). literal (value.String x)) (word_of_text_is s w (is_word s) (λ _. is_word s) h)
member_is t w h = absurd (none_some w h)

word_of_text_word : (s w : List ℕ) (b : Bool) → is_word s ≡ b → word_of_text s ≡ Some w → is_word w ≡ true
word_of_text_word s w true e h = ap is_word (sym (word_of_text_is s w true e h)) ∙ e
word_of_text_word s w false e h = absurd (none_some w (sym (cond-false (is_word s) (Some s) None e) ∙ h))

pub member_is_word : (key : Term) (w : List ℕ) → member_word key ≡ Some w → is_word w ≡ true
member_is_word (literal (value.String s)) w h = word_of_text_word s w (is_word s) (λ _. is_word s) h
member_is_word t w h = absurd (none_some w h)

pub item_is : (t : Term) → is_item t ≡ true → t ≡ name (codes "#")
item_is (name key) h = ap name ((bytes_eq-Decides key (codes "#")).0 h)
item_is t h = absurd (false≢true h)

module _ (l : Tree) (x : Term) (same : tree_term l ≡ x) where
  member_same : (item optional : Bool) → (item ≡ true → x ≡ name (codes "#")) → (w : List ℕ) → tree_term (member_by item optional l (word_of w)) ≡ member_term x optional w
  member_same true false h w = λ i. member_term (sym (h (λ _. true)) i) false (word_back w i)
  member_same true true h w = λ i. member_term (same i) true (word_back w i)
  member_same false optional h w = λ i. member_term (same i) optional (word_back w i)

  index_same_by : (key : Term) (o : Option (List ℕ)) → member_word key ≡ o → (item optional : Bool) → (item ≡ true → x ≡ name (codes "#")) → (i : Tree) → tree_term i ≡ key
      → tree_term (index_by o item optional l i) ≡ postfix (index key optional) x
  index_same_by key (Some w) e item optional h i g = member_same item optional h w ∙ ap (λ (k : Term). postfix (index k optional) x) (sym (member_is key w e))
  index_same_by key None e item optional h i g = λ j. postfix (index (g j) optional) (same j)

  index_same : (key : Term) (item optional : Bool) → (item ≡ true → x ≡ name (codes "#")) → (i : Tree) → tree_term i ≡ key → tree_term (index_by (member_word key) item optional l i) ≡ postfix (index key optional) x
  index_same key item optional h i g = index_same_by key (member_word key) (λ _. member_word key) item optional h i g

-- pipes
piped_same : (l : Tree) (t : Term) → is_call_term t ≡ true → tree_term (piped l (tree_at t 0 0)) ≡ postfix (pipe (tree_term (tree_at t 0 0))) (tree_term l)
piped_same l (call key ts p) h = refl
piped_same l t h = absurd (false≢true h)

pipe_same : (l : ℕ → ℕ → Tree) (t x : Term) → is_call_term t ≡ true → Says l x → tree_term (tree_at t 0 0) ≡ t → Says (pipe_at l (tree_at t 0 0)) (postfix (pipe t) x)
pipe_same l t x is says same a b = brackets_same (nat_lt 2 a) a b (λ c d. piped (l c 2) (tree_at t 0 0)) _ (λ c d. piped_same (l c 2) t is ∙ (λ i. postfix (pipe (same i)) (says c 2 i)))

-- entries of maps
entry_row_same : (ps : List (List ℕ × Tree)) (r : EntryRow) → entry_row_pairs (entry_row_from ps r) ≡ entry_row_pairs r ++ with_each tree_term ps
entry_row_same [] r = sym (append-nil (entry_row_pairs r))
entry_row_same (p ∷ ps) r =
    entry_row_same ps _
    ∙ append_assoc (entry_row_pairs r) ((entry_name (printed_key p.0), tree_term p.1) ∷ []) (with_each tree_term ps)
    ∙ (λ i. entry_row_pairs r ++ (key_back p.0 i, tree_term p.1) ∷ with_each tree_term ps)

entries_same : (ps : List (List ℕ × Tree)) → entries_pairs (map_entries ps) ≡ with_each tree_term ps
entries_same [] = refl
entries_same (p ∷ ps) = entry_row_same ps _ ∙ (λ i. (key_back p.0 i, tree_term p.1) ∷ with_each tree_term ps)

-- a map of literals
none_expression : (vs : List (List ℕ × Value)) → has_expression (with_each literal vs) ≡ false
none_expression [] = refl
none_expression (v ∷ vs) = none_expression vs

literals_back : (vs : List (List ℕ × Value)) → literal_pairs (with_each literal vs) ≡ vs
literals_back [] = refl
literals_back (v ∷ vs) = ap (λ l. v ∷ l) (literals_back vs)

literal_map : (vs : List (List ℕ × Value)) → are_distinct (keys_of vs) ≡ true → map_term (with_each literal vs) ≡ literal (value.Map vs)
literal_map vs apart = cond-false _ _ _ (none_expression vs) ∙ ap (λ (l : List (List ℕ × Value)). literal (value.Map l)) (ap (put_all []) (literals_back vs) ∙ put_back vs apart)

-- literals
abbrev SaysLiteral : Value → Type 0
SaysLiteral v = literal_has_text v ≡ true → tree_term (literal_tree v) ≡ literal v

pairs_say : (ps : List (List ℕ × Such SaysLiteral)) → list_all (λ p. p.1) (with_each literal_has_text (pairs_of ps)) ≡ true
    → with_each tree_term (with_each literal_tree (pairs_of ps)) ≡ with_each literal (pairs_of ps)
pairs_say [] h = refl
pairs_say (p ∷ ps) h = let parts = and_parts _ _ h in (λ i. (p.0, p.1.1 parts.0 i) ∷ pairs_say ps parts.1 i)

keys_same : {A B : Type 0} (f : A → B) (ps : List (List ℕ × A)) → keys_of (with_each f ps) ≡ keys_of ps
keys_same f [] = refl
keys_same f (p ∷ ps) = ap (λ ks. p.0 ∷ ks) (keys_same f ps)

truth_same : (b : Bool) → tree_term (truth_tree b) ≡ literal (value.Bool b)
truth_same true = refl
truth_same false = refl

layer_same : (y : Value-F (Such SaysLiteral)) → literal_has_text_layer (map-Value Value Bool literal_has_text (bare y)) ≡ true
    → tree_term (literal_layer (map-Value Value Tree literal_tree (bare y))) ≡ literal (roll-Value (bare y))
unfolding roll-Value denote.Hole.Carrier.roll
layer_same (Value-F.Integer (pos n)) h = refl
layer_same (Value-F.Integer (negsuc n)) h = absurd (false≢true h)
layer_same (Value-F.Bool b) h = truth_same b
layer_same Value-F.Nil h = refl
layer_same (Value-F.String s) h = refl
layer_same (Value-F.Bytes bs) h = refl
layer_same (Value-F.Map ps) h =
    let parts = and_parts _ _ h in
    ap map_term (entries_same (with_each literal_tree (pairs_of ps)) ∙ pairs_say ps parts.1)
    ∙ literal_map (pairs_of ps) (ap are_distinct (sym (keys_same literal_has_text (pairs_of ps))) ∙ parts.0)
layer_same _ h = absurd (false≢true h)

literal_same : (v : Value) → SaysLiteral v
literal_same = by_layers SaysLiteral (λ y h.
    ap tree_term (fold-roll-Value Tree literal_layer (bare y)) ∙ layer_same y (sym (fold-roll-Value Bool literal_has_text_layer (bare y)) ∙ h))

-- lists
terms_back : (ts : Terms) → terms_of (term_list ts) ≡ ts
terms_back no_terms = refl
terms_back (term t ts) = ap (term t) (terms_back ts)

pairs_back : (ps : TermPairs) → term_pairs (pair_list ps) ≡ ps
pairs_back pairs_end = refl
pairs_back (pair key t ps) = ap (pair key t) (pairs_back ps)

-- promotion: where no program is promoted, the arguments stay
kept_last : (ts : List Term) → is_no_predicate (last_promotion ts).program ≡ true → last_promotion ts ≡ record { arguments = ts; program = no_predicate }
kept_last [] h = refl
kept_last (t ∷ []) h = by (has_free_hash t) (λ _. has_free_hash t)
  where
    by : (b : Bool) → has_free_hash t ≡ b → last_promotion (t ∷ []) ≡ record { arguments = t ∷ []; program = no_predicate }
    by true e = absurd (false≢true (ap (λ (p : Promotion). is_no_predicate p.program) (sym (cond-true _ _ _ e)) ∙ h))
    by false e = cond-false _ _ _ e
kept_last (t ∷ u ∷ ts) h = ap (λ (p : Promotion). record { arguments = t ∷ p.arguments; program = p.program }) (kept_last (u ∷ ts) h)

kept_reducer : (ts : List Term) → is_no_predicate (reducer_promotion ts).program ≡ true → reducer_promotion ts ≡ record { arguments = ts; program = no_predicate }
kept_reducer [] h = refl
kept_reducer (t ∷ []) h = by (has_free_hash t) (λ _. has_free_hash t)
  where
    by : (b : Bool) → has_free_hash t ≡ b → reducer_promotion (t ∷ []) ≡ record { arguments = t ∷ []; program = no_predicate }
    by true e = absurd (false≢true (ap (λ (p : Promotion). is_no_predicate p.program) (sym (cond-true _ _ _ e)) ∙ h))
    by false e = cond-false _ _ _ e
kept_reducer (t ∷ u ∷ ts) h = by (has_free_hash u) (has_free_hash t) (λ _. has_free_hash u) (λ _. has_free_hash t)
  where
    by : (b c : Bool) → has_free_hash u ≡ b → has_free_hash t ≡ c → reducer_promotion (t ∷ u ∷ ts) ≡ record { arguments = t ∷ u ∷ ts; program = no_predicate }
    by true c e f = absurd (false≢true (ap (λ (p : Promotion). is_no_predicate p.program) (sym (cond-true _ _ _ e)) ∙ h))
    by false true e f = absurd (false≢true (ap (λ (p : Promotion). is_no_predicate p.program) (sym (cond-false _ _ _ e ∙ cond-true _ _ _ f)) ∙ h))
    by false false e f = cond-false _ _ _ e ∙ cond-false _ _ _ f

pub kept_by : (o : Option HigherOrderCall) (ts : List Term) → is_no_predicate (promoted_by o ts).program ≡ true → promoted_by o ts ≡ record { arguments = ts; program = no_predicate }
kept_by o ts h = by (reduces o) (is_some o) (λ _. reduces o) (λ _. is_some o)
  where
    by : (b c : Bool) → reduces o ≡ b → is_some o ≡ c → promoted_by o ts ≡ record { arguments = ts; program = no_predicate }
    by true c e f = let same = cond-true _ _ _ e in same ∙ kept_reducer ts (ap (λ (p : Promotion). is_no_predicate p.program) (sym same) ∙ h)
    by false true e f = let same = cond-false _ _ _ e ∙ cond-true _ _ _ f in same ∙ kept_last ts (ap (λ (p : Promotion). is_no_predicate p.program) (sym same) ∙ h)
    by false false e f = cond-false _ _ _ e ∙ cond-false _ _ _ f

call_kept : (key : List ℕ) (ts : Terms) → promotes_none key ts ≡ true → call_of key (term_list ts) no_predicate ≡ call key ts no_predicate
call_kept key ts h =
    ap (λ (p : Promotion). call key (terms_of p.arguments) p.program) (kept_by (higher_order_named key) (term_list ts) h)
    ∙ ap (λ (xs : Terms). call key xs no_predicate) (terms_back ts)

-- arguments
then_terms : (xs : Arguments) (p : TreeProgram) → argument_terms (arguments_then xs p) ≡ argument_terms xs
then_terms NoArguments p = refl
then_terms (SomeArguments r comma) p = append-nil (argument_row_terms r)

then_predicate : (xs : Arguments) (p : TreeProgram) → last_predicate (arguments_then xs p) ≡ predicate (program_of p)
then_predicate NoArguments p = refl
then_predicate (SomeArguments r comma) p = refl

none_in_row : (ts : Terms) (r : ArgumentRow) → last_predicate_in_row r ≡ no_predicate → last_predicate_in_row (argument_row_from ts r) ≡ no_predicate
none_in_row no_terms r h = h
none_in_row (term t ts) r h = none_in_row ts _ h

none_given : (ts : Terms) → last_predicate (arguments_of ts) ≡ no_predicate
none_given no_terms = refl
none_given (term t ts) = none_in_row ts _ refl

-- programs
abbrev with_lines : LineTerms → Block → Block
with_lines [] b = b
with_lines (l ∷ ls) b = line l.0 l.1 (with_lines ls b)

last_line : (ls : LineTerms) (t : Term) → block_with ls t ≡ with_lines ls (answers t)
last_line [] t = refl
last_line (l ∷ ls) t = ap (line l.0 l.1) (last_line ls t)

one_more_line : (ls : LineTerms) (l : List ℕ × Term) (b : Block) → with_lines (ls ++ l ∷ []) b ≡ with_lines ls (line l.0 l.1 b)
one_more_line [] l b = refl
one_more_line (m ∷ ls) l b = ap (line m.0 m.1) (one_more_line ls l b)

else_same : (t : Tree) → else_block (else_with t) ≡ answers (tree_term t)
else_same (If c a e) = refl
else_same t = refl

mutual
  pub tree_same : (t : Term) → has_text t ≡ true → Says (tree_at t) t
  tree_same (name key) h a b = name_back key
  tree_same (literal v) h a b = literal_same v h
  tree_same (list ts) h a b = ap (λ l. list (terms_of l)) (items_same ts h) ∙ ap list (terms_back ts)
  tree_same (mapping ps) h a b =
      let parts = and_parts _ _ h in
      ap map_term (entries_same (pair_trees ps) ∙ pairs_same ps parts.1) ∙ cond-true _ _ _ parts.0 ∙ ap mapping (pairs_back ps)
  tree_same (range first last) h a b =
      let parts = and_parts _ _ h in
      infix_same infixed.Range (tree_at first) (tree_at last) first last (tree_same first parts.0) (tree_same last parts.1) a b
  tree_same (call key ts p) h a b = let parts = and_parts _ _ (and_parts _ _ h).1 in call_same p key ts (arguments_same ts parts.0) parts.1
  tree_same (unary o t) h a b = prefix_same (prefix_of o) (tree_at t) t (tree_same t h) a b ∙ ap (λ (x : UnaryOperator). unary x t) (prefix_back o)
  tree_same (operation o l r) h a b =
      let parts = and_parts _ _ h in
      infix_same (infix_of o) (tree_at l) (tree_at r) l r (tree_same l parts.0) (tree_same r parts.1) a b ∙ ap (λ (m : Meaning). infix_term m l r) (infix_back o)
  tree_same (postfix p t) h a b = let parts = and_parts _ _ h in postfix_same p parts.1 (is_item t) (tree_at t) t (tree_same t parts.0) (item_is t) a b
  tree_same (choice c first second) h a b =
      let parts = and_parts _ _ h in
      let blocks = and_parts _ _ parts.1 in
      (λ i. choice (tree_same c parts.0 0 0 i) (block_lines_same first blocks.0 NoLines i) (else_of_same second blocks.1 i))

  pub call_same : (p : Predicate) (key : List ℕ) (ts : Terms) → argument_terms (arguments_of ts) ≡ term_list ts → predicate_has_text (promotes_none key ts) p ≡ true
      → call_of key (argument_terms (arguments_with p (arguments_of ts))) (last_predicate (arguments_with p (arguments_of ts))) ≡ call key ts p
  call_same no_predicate key ts same g = (λ i. call_of key (same i) (none_given ts i)) ∙ call_kept key ts g
  call_same (predicate b) key ts same g =
      (λ i. call_of key (then_terms (arguments_of ts) (block_from b NoLines) i) (then_predicate (arguments_of ts) (block_from b NoLines) i))
      ∙ (λ i. call key (terms_of (same i)) (predicate (block_lines_same b g NoLines i)))
      ∙ ap (λ (xs : Terms). call key xs (predicate b)) (terms_back ts)

  pub postfix_same : (p : Postfix) → postfix_has_text p ≡ true → (item : Bool) (l : ℕ → ℕ → Tree) (x : Term) → Says l x → (item ≡ true → x ≡ name (codes "#")) → Says (postfix_at p item l) (postfix p x)
  postfix_same (index key optional) h item l x says is a b = index_same (l a 13) x (says a 13) key item optional is (tree_at key 0 0) (tree_same key h 0 0)
  postfix_same (slice start stop) h item l x says is a b =
      let parts = and_parts _ _ h in
      (λ i. postfix (slice (bound_same start parts.0 i) (bound_same stop parts.1 i)) (says a 13 i))
  postfix_same (coalesce t) h item l x says is a b = infix_same infixed.Coalesce l (tree_at t) x t says (tree_same t h) a b
  postfix_same (pipe t) h item l x says is a b = let parts = and_parts _ _ h in pipe_same l t x parts.0 says (tree_same t parts.1 0 0) a b
  postfix_same (ternary first second) h item l x says is a b =
      let parts = and_parts _ _ h in
      ternary_same l (tree_at first 0 0) (tree_at second 0 0) x first second says (tree_same first parts.0 0 0) (tree_same second parts.1 0 0) a b
  postfix_same (method key ts) h item l x says is a b =
      let parts = and_parts _ _ h in
      (λ i. postfix (method (word_back key i) (terms_of (items_same ts parts.1 i))) (says a 13 i)) ∙ ap (λ (xs : Terms). postfix (method key xs) x) (terms_back ts)

  pub bound_same : (x : BoundTerm) → bound_has_text x ≡ true → bound_term (bound_of x) ≡ x
  bound_same unbounded h = refl
  bound_same (bound t) h = ap bound (tree_same t h 0 0)

  pub items_same : (ts : Terms) → terms_have_text ts ≡ true → items_terms (items_of ts) ≡ term_list ts
  items_same no_terms h = refl
  items_same (term t ts) h = let parts = and_parts _ _ h in row_same ts parts.1 _ ∙ ap (λ (x : Term). x ∷ term_list ts) (tree_same t parts.0 0 0)

  pub row_same : (ts : Terms) → terms_have_text ts ≡ true → (r : Row) → row_terms (row_from ts r) ≡ row_terms r ++ term_list ts
  row_same no_terms h r = sym (append-nil (row_terms r))
  row_same (term t ts) h r =
      let parts = and_parts _ _ h in
      row_same ts parts.1 _ ∙ append_assoc (row_terms r) (tree_term (tree_at t 0 0) ∷ []) (term_list ts) ∙ ap (λ (x : Term). row_terms r ++ x ∷ term_list ts) (tree_same t parts.0 0 0)

  pub pairs_same : (ps : TermPairs) → pairs_have_text ps ≡ true → with_each tree_term (pair_trees ps) ≡ pair_list ps
  pairs_same pairs_end h = refl
  pairs_same (pair key t ps) h = let parts = and_parts _ _ h in (λ i. (key, tree_same t parts.0 0 0 i) ∷ pairs_same ps parts.1 i)

  pub arguments_same : (ts : Terms) → terms_have_text ts ≡ true → argument_terms (arguments_of ts) ≡ term_list ts
  arguments_same no_terms h = refl
  arguments_same (term t ts) h = let parts = and_parts _ _ h in argument_row_same ts parts.1 _ ∙ ap (λ (x : Term). x ∷ term_list ts) (tree_same t parts.0 0 0)

  pub argument_row_same : (ts : Terms) → terms_have_text ts ≡ true → (r : ArgumentRow) → argument_row_terms (argument_row_from ts r) ≡ argument_row_terms r ++ term_list ts
  argument_row_same no_terms h r = sym (append-nil (argument_row_terms r))
  argument_row_same (term t ts) h r =
      let parts = and_parts _ _ h in
      argument_row_same ts parts.1 _ ∙ append_assoc (argument_row_terms r) (tree_term (tree_at t 0 0) ∷ []) (term_list ts) ∙ ap (λ (x : Term). argument_row_terms r ++ x ∷ term_list ts) (tree_same t parts.0 0 0)

  pub block_lines_same : (b : Block) → block_has_text b ≡ true → (ls : Lines) → program_of (block_from b ls) ≡ with_lines (line_terms ls) b
  block_lines_same (answers t) h ls = last_line (line_terms ls) (tree_term (tree_at t 0 0)) ∙ ap (λ (x : Term). with_lines (line_terms ls) (answers x)) (tree_same t h 0 0)
  block_lines_same (line key t b) h ls =
      let parts = and_parts _ _ (and_parts _ _ h).1 in
      block_lines_same b parts.1 _ ∙ one_more_line (line_terms ls) (key, tree_term (tree_at t 0 0)) b ∙ ap (λ (x : Term). with_lines (line_terms ls) (line key x b)) (tree_same t parts.0 0 0)

  pub else_of_same : (b : Block) → block_has_text b ≡ true → else_block (else_of b) ≡ b
  else_of_same (answers t) h = else_same (tree_at t 0 0) ∙ ap answers (tree_same t h 0 0)
  else_of_same (line key t b) h =
      let parts = and_parts _ _ (and_parts _ _ h).1 in
      block_lines_same b parts.1 _ ∙ ap (λ (x : Term). line key x b) (tree_same t parts.0 0 0)

pub printed_same : (b : Block) → block_has_text b ≡ true → program_of (printed_tree b) ≡ b
printed_same b h = block_lines_same b h NoLines
