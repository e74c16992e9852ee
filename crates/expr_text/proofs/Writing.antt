-- The tokens of a program's tree can be written.
use Rattle.std.proofs.Common.{◌≡◌, ℕ, suc, nat_lt, ◌||◌, pos, negsuc, Bool, true, false, List, [], ◌∷◌, ◌++◌, Option, Some, None, is_none, refl, sym, ap, ◌∙◌, subst}
use Rattle.std.specs.List.{list_all, AllByRecursion}
use Rattle.std.proofs.lemmas.Bool.{and_parts, and_from, cond-true, cond-false, false≢true}
use Rattle.expr_value.specs.declared.value.Value.{Value, map-Value, fold-roll-Value}
use Rattle.expr_value.specs.declared.value.Value.TheOpen.{Value-F}
use Rattle.expr_value.specs.declared.value.Value.TheVariants as value
use Rattle.expr_tokens.specs.Lexer.{reserved_of}
use Rattle.expr_tokens.specs.Tokens.{is_word, is_hash_name}
use Rattle.expr_tokens.specs.declared.reserved.Reserved.{Reserved}
use Rattle.expr_tokens.specs.declared.sign.Sign.TheVariants as sign
use Rattle.expr_tokens.specs.declared.token.Token.{Token}
use Rattle.expr_tokens.specs.declared.token.Token.TheVariants as token
use Rattle.expr_tree.specs.Term.{Term, name, literal, list, mapping, range, call, unary, operation, postfix, choice, Postfix, index, slice, coalesce, pipe, ternary, method, Bound as BoundTerm, unbounded, bound, Terms, no_terms, term, TermPairs, pairs_end, pair, Predicate, no_predicate, predicate, Block, answers, line}
use Rattle.expr_tokens.specs.declared.operator_sign.PrefixSign.{PrefixSign}
use Rattle.expr_tokens.specs.declared.operator_sign.PrefixSign.TheVariants as prefix
use Rattle.expr_tokens.specs.declared.operator_sign.InfixSign.{InfixSign}
use Rattle.expr_tokens.specs.declared.operator_sign.InfixSign.TheVariants as infixed
use Rattle.expr_tokens.specs.Grammar.{Word, Usual, ReservedWord, Key, EntryRow, OneEntry, Tree, Map, Call, If, Prefix, Infix, Ternary, Row, One, More, Arguments, NoArguments, SomeArguments, ArgumentRow, OneArgument, MoreArguments, Expression, Braces, TreeProgram, Lines, NoLines, MoreLines, infix_level, prefix_level, word_token, key_token, prefix_token, infix_tokens, index_tokens, tokens_of, items_tokens, row_tokens, entry_row_tokens, arguments_tokens, argument_row_tokens, argument_tokens, bound_tokens, else_tokens, program_tokens, lines_tokens, IntegerFits}
use Rattle.expr_text.specs.Texts.{is_free_word, literal_has_text_layer, literal_has_text, has_text, postfix_has_text, bound_has_text, terms_have_text, pairs_have_text, predicate_has_text, block_has_text, token_has_text}
use Rattle.expr_text.specs.Trees.{prefix_of, infix_of, infix_catch, prefix_catch, in_brackets, infix_at, prefix_at, ternary_at, piped, pipe_at, word_of, printed_key, word_of_text, member_word, is_item, member_by, index_by, entry_row_from, map_entries, truth_tree, literal_layer, literal_tree, name_tree, else_with, arguments_then, tree_at, postfix_at, bound_of, items_of, row_from, pair_trees, arguments_of, argument_row_from, arguments_with, block_from, else_of, printed_tree}
use Rattle.expr_tokens.proofs.Such.{Such, pairs_of, bare, with_each, by_layers}
use Rattle.expr_text.proofs.Complete.{Written, front}

pub both : (xs ys : List Token) → Written xs → Written ys → Written (xs ++ ys)
both [] ys h g = g
both (x ∷ xs) ys h g = (h.0, both xs ys h.1 g)

-- written at each place
abbrev pub WrittenAt : (ℕ → ℕ → Tree) → Type 0
WrittenAt t = (a b : ℕ) → Written (tokens_of (t a b))

brackets : (needs : Bool) (a b : ℕ) (t : ℕ → ℕ → Tree) → WrittenAt t → Written (tokens_of (in_brackets needs a b t))
brackets true a b t h = (refl, both (tokens_of (t 0 0)) _ (h 0 0) (refl, tt))
brackets false a b t h = h a b

infix_signs : (o : InfixSign) → Written (infix_tokens o)
infix_signs infixed.NotIn = (refl, (refl, tt))
infix_signs o = (refl, tt)

prefix_sign : (o : PrefixSign) → token_has_text (prefix_token o) ≡ true
prefix_sign prefix.Not = refl
prefix_sign o = refl

infix_written : (o : InfixSign) (l r : ℕ → ℕ → Tree) → WrittenAt l → WrittenAt r → WrittenAt (infix_at o l r)
infix_written o l r f g a b =
    brackets (nat_lt (infix_level o) a || nat_lt (infix_catch o) b) a b (λ c d. Infix o (l c (infix_level o)) (r (suc (infix_catch o)) d))
    (λ c d. both (tokens_of (l c (infix_level o))) _ (f c (infix_level o)) (both (infix_tokens o) _ (infix_signs o) (g (suc (infix_catch o)) d)))

prefix_written : (o : PrefixSign) (t : ℕ → ℕ → Tree) → WrittenAt t → WrittenAt (prefix_at o t)
prefix_written o t f a b = brackets (nat_lt (prefix_catch o) b) a b (λ c d. Prefix o (t (prefix_level o) d)) (λ c d. (prefix_sign o, f (prefix_level o) d))

ternary_written : (c : ℕ → ℕ → Tree) (first second : Tree) → WrittenAt c → Written (tokens_of first) → Written (tokens_of second) → WrittenAt (ternary_at c first second)
ternary_written c first second f g k a b =
    brackets (nat_lt 1 a || nat_lt 0 b) a b (λ d e. Ternary (c d 1) first second) (λ d e. both (tokens_of (c d 1)) _ (f d 1) (refl, both (tokens_of first) _ g (refl, k)))

piped_written : (l t : Tree) → Written (tokens_of l) → Written (tokens_of t) → Written (tokens_of (piped l t))
piped_written l (Call w xs) f g = both (tokens_of l) _ f (refl, g)
piped_written l t f g = (refl, tt)

pipe_written : (l : ℕ → ℕ → Tree) (t : Tree) → WrittenAt l → Written (tokens_of t) → WrittenAt (pipe_at l t)
pipe_written l t f g a b = brackets (nat_lt 2 a) a b (λ c d. piped (l c 2) t) (λ c d. piped_written (l c 2) t (f c 2) g)

-- words and keys
abbrev word_by : Option Reserved → List ℕ → Word
word_by o w = elim o [ Some r ↦ ReservedWord r | None ↦ Usual w ]

word_written_by : (w : List ℕ) (o : Option Reserved) → reserved_of w ≡ o → is_word w ≡ true → token_has_text (word_token (word_by o w)) ≡ true
word_written_by w (Some r) e h = refl
word_written_by w None e h = and_from _ _ h (ap is_none e)

word_written : (w : List ℕ) → is_word w ≡ true → token_has_text (word_token (word_of w)) ≡ true
word_written w h = word_written_by w (reserved_of w) (λ _. reserved_of w) h

key_written_by : (k : List ℕ) (b : Bool) → is_word k ≡ b → token_has_text (key_token (printed_key k)) ≡ true
key_written_by k true e = subst (λ (x : Key). token_has_text (key_token x) ≡ true) (sym (cond-true _ _ _ e)) (word_written k e)
key_written_by k false e = subst (λ (x : Key). token_has_text (key_token x) ≡ true) (sym (cond-false _ _ _ e)) refl

key_written : (k : List ℕ) → token_has_text (key_token (printed_key k)) ≡ true
key_written k = key_written_by k (is_word k) (λ _. is_word k)

name_written_by : (key : List ℕ) (b c : Bool) → is_hash_name key ≡ b → is_free_word key ≡ c → (b || c) ≡ true → Written (tokens_of (name_tree key))
name_written_by key true c e f h = subst (λ (t : Tree). Written (tokens_of t)) (sym (cond-true _ _ _ e)) (e, tt)
name_written_by key false true e f h = subst (λ (t : Tree). Written (tokens_of t)) (sym (cond-false _ _ _ e)) (f, tt)
name_written_by key false false e f h = absurd (false≢true h)

name_written : (key : List ℕ) → (is_hash_name key || is_free_word key) ≡ true → Written (tokens_of (name_tree key))
name_written key h = name_written_by key (is_hash_name key) (is_free_word key) (λ _. is_hash_name key) (λ _. is_free_word key) h

-- members
none_some : {A : Type 0} (x : A) → ◌≡◌ {A = Option A} None (Some x) → ⊥
none_some x e = cc

text_is_word : (s w : List ℕ) (b : Bool) → is_word s ≡ b → word_of_text s ≡ Some w → is_word w ≡ true
text_is_word s w true e h = let same : s ≡ w = (let h2 = sym (cond-true (is_word s) (Some s) None e) ∙ h in cc) in ap is_word (sym same) ∙ e
text_is_word s w false e h = absurd (none_some w (sym (cond-false (is_word s) (Some s) None e) ∙ h))

member_is_word : (key : Term) (w : List ℕ) → member_word key ≡ Some w → is_word w ≡ true
member_is_word (literal (value.String s)) w h = text_is_word s w (is_word s) (λ _. is_word s) h
member_is_word t w h = absurd (none_some w h)

module _ (l : Tree) (f : Written (tokens_of l)) where
  member_written : (item optional : Bool) (w : List ℕ) → is_word w ≡ true → Written (tokens_of (member_by item optional l (word_of w)))
  member_written true false w h = (refl, (word_written w h, tt))
  member_written true true w h = both (tokens_of l) _ f (refl, (word_written w h, tt))
  member_written false true w h = both (tokens_of l) _ f (refl, (word_written w h, tt))
  member_written false false w h = both (tokens_of l) _ f (refl, (word_written w h, tt))

  index_signs : (optional : Bool) → Written (index_tokens optional)
  index_signs true = (refl, (refl, tt))
  index_signs false = (refl, tt)

  index_written : (key : Term) (o : Option (List ℕ)) → member_word key ≡ o → (item optional : Bool) (i : Tree) → Written (tokens_of i) → Written (tokens_of (index_by o item optional l i))
  index_written key (Some w) e item optional i g = member_written item optional w (member_is_word key w e)
  index_written key None e item optional i g = both (tokens_of l) _ f (both (index_tokens optional) _ (index_signs optional) (both (tokens_of i) _ g (refl, tt)))

-- entries of maps
abbrev PairsWritten : List (List ℕ × Tree) → Type 0
PairsWritten ps = AllByRecursion (λ (p : List ℕ × Tree). Written (tokens_of p.1)) ps

entry_row_written : (ps : List (List ℕ × Tree)) (r : EntryRow) → PairsWritten ps → Written (entry_row_tokens r) → Written (entry_row_tokens (entry_row_from ps r))
entry_row_written [] r h f = f
entry_row_written (p ∷ ps) r h f = entry_row_written ps _ h.1 (both (entry_row_tokens r) _ f (refl, (key_written p.0, (refl, h.0))))

entries_written : (ps : List (List ℕ × Tree)) → PairsWritten ps → Written (tokens_of (Map (map_entries ps)))
entries_written [] h = (refl, (refl, tt))
entries_written (p ∷ ps) h =
    let r = entry_row_from ps (OneEntry (printed_key p.0) p.1) in
    (refl, both (entry_row_tokens r ++ []) _ (both (entry_row_tokens r) [] (entry_row_written ps _ h.1 (key_written p.0, (refl, h.0))) tt) (refl, tt))

-- literals
abbrev LiteralWritten : Value → Type 0
LiteralWritten v = literal_has_text v ≡ true → Written (tokens_of (literal_tree v))

literal_pairs : (ps : List (List ℕ × Such LiteralWritten)) → list_all (λ (p : List ℕ × Bool). p.1) (with_each literal_has_text (pairs_of ps)) ≡ true → PairsWritten (with_each literal_tree (pairs_of ps))
literal_pairs [] h = tt
literal_pairs (p ∷ ps) h = let parts = and_parts _ _ h in (p.1.1 parts.0, literal_pairs ps parts.1)

truth_written : (b : Bool) → Written (tokens_of (truth_tree b))
truth_written true = (refl, tt)
truth_written false = (refl, tt)

layer_written : (y : Value-F (Such LiteralWritten)) → literal_has_text_layer (map-Value Value Bool literal_has_text (bare y)) ≡ true → Written (tokens_of (literal_layer (map-Value Value Tree literal_tree (bare y))))
layer_written (Value-F.Integer (pos n)) h = (h, tt)
layer_written (Value-F.Integer (negsuc n)) h = (refl, tt)
layer_written (Value-F.Bool b) h = truth_written b
layer_written (Value-F.Bytes bs) h = (h, tt)
layer_written (Value-F.Map ps) h = entries_written _ (literal_pairs ps (and_parts _ _ h).1)
layer_written _ h = (refl, tt)

literal_written : (v : Value) → LiteralWritten v
literal_written = by_layers LiteralWritten (λ y h.
    subst (λ (t : Tree). Written (tokens_of t)) (sym (fold-roll-Value Tree literal_layer (bare y))) (layer_written y (sym (fold-roll-Value Bool literal_has_text_layer (bare y)) ∙ h)))

else_written : (t : Tree) → Written (tokens_of t) → Written (else_tokens (else_with t))
else_written (If c a e) f = f
else_written t f = (refl, both (tokens_of t) (token.Sign sign.BraceClose ∷ []) f (refl, tt))

then_written : (xs : Arguments) (p : TreeProgram) → Written (arguments_tokens xs) → Written (program_tokens p) → Written (arguments_tokens (arguments_then xs p))
then_written NoArguments p f g = both (argument_tokens (Braces p)) [] (refl, both (program_tokens p) _ g (refl, tt)) tt
then_written (SomeArguments r comma) p f g =
    both (argument_row_tokens r ++ token.Sign sign.Comma ∷ argument_tokens (Braces p)) [] (both (argument_row_tokens r) _ (front (argument_row_tokens r) _ f) (refl, (refl, both (program_tokens p) _ g (refl, tt)))) tt

mutual
  pub tree_written : (t : Term) → has_text t ≡ true → WrittenAt (tree_at t)
  tree_written (name key) h a b = name_written key h
  tree_written (literal v) h a b = literal_written v h
  tree_written (list ts) h a b = (refl, both (items_tokens (items_of ts)) _ (items_written ts h) (refl, tt))
  tree_written (mapping ps) h a b = entries_written (pair_trees ps) (pairs_written ps (and_parts _ _ h).1)
  tree_written (range first last) h a b = let parts = and_parts _ _ h in infix_written infixed.Range (tree_at first) (tree_at last) (tree_written first parts.0) (tree_written last parts.1) a b
  tree_written (call key ts p) h a b =
      let parts = and_parts _ _ h in
      let more = and_parts _ _ parts.1 in
      (parts.0, (refl, both (arguments_tokens (arguments_with p (arguments_of ts))) _ (with_written p _ more.1 (arguments_of ts) (arguments_written ts more.0)) (refl, tt)))
  tree_written (unary o t) h a b = prefix_written (prefix_of o) (tree_at t) (tree_written t h) a b
  tree_written (operation o l r) h a b = let parts = and_parts _ _ h in infix_written (infix_of o) (tree_at l) (tree_at r) (tree_written l parts.0) (tree_written r parts.1) a b
  tree_written (postfix p t) h a b = let parts = and_parts _ _ h in postfix_written p parts.1 (is_item t) (tree_at t) (tree_written t parts.0) a b
  tree_written (choice c first second) h a b =
      let parts = and_parts _ _ h in
      let blocks = and_parts _ _ parts.1 in
      (refl, both (tokens_of (tree_at c 0 0)) _ (tree_written c parts.0 0 0) (refl, both (program_tokens (block_from first NoLines)) _ (block_written first blocks.0 NoLines tt) (refl, (refl, else_of_written second blocks.1))))

  pub postfix_written : (p : Postfix) → postfix_has_text p ≡ true → (item : Bool) (l : ℕ → ℕ → Tree) → WrittenAt l → WrittenAt (postfix_at p item l)
  postfix_written (index key optional) h item l f a b = index_written (l a 13) (f a 13) key (member_word key) (λ _. member_word key) item optional (tree_at key 0 0) (tree_written key h 0 0)
  postfix_written (slice start stop) h item l f a b =
      let parts = and_parts _ _ h in
      both (tokens_of (l a 13)) _ (f a 13) (refl, both (bound_tokens (bound_of start)) _ (bound_written start parts.0) (refl, both (bound_tokens (bound_of stop)) _ (bound_written stop parts.1) (refl, tt)))
  postfix_written (coalesce t) h item l f a b = infix_written infixed.Coalesce l (tree_at t) f (tree_written t h) a b
  postfix_written (pipe t) h item l f a b = pipe_written l (tree_at t 0 0) f (tree_written t (and_parts _ _ h).1 0 0) a b
  postfix_written (ternary first second) h item l f a b =
      let parts = and_parts _ _ h in
      ternary_written l (tree_at first 0 0) (tree_at second 0 0) f (tree_written first parts.0 0 0) (tree_written second parts.1 0 0) a b
  postfix_written (method key ts) h item l f a b =
      let parts = and_parts _ _ h in
      both (tokens_of (l a 13)) _ (f a 13) (refl, (word_written key parts.0, (refl, both (items_tokens (items_of ts)) _ (items_written ts parts.1) (refl, tt))))

  pub bound_written : (x : BoundTerm) → bound_has_text x ≡ true → Written (bound_tokens (bound_of x))
  bound_written unbounded h = tt
  bound_written (bound t) h = tree_written t h 0 0

  pub items_written : (ts : Terms) → terms_have_text ts ≡ true → Written (items_tokens (items_of ts))
  items_written no_terms h = tt
  items_written (term t ts) h =
      let parts = and_parts _ _ h in
      both (row_tokens (row_from ts (One (tree_at t 0 0)))) [] (row_written ts parts.1 (One (tree_at t 0 0)) (tree_written t parts.0 0 0)) tt

  pub row_written : (ts : Terms) → terms_have_text ts ≡ true → (r : Row) → Written (row_tokens r) → Written (row_tokens (row_from ts r))
  row_written no_terms h r f = f
  row_written (term t ts) h r f = let parts = and_parts _ _ h in row_written ts parts.1 (More r (tree_at t 0 0)) (both (row_tokens r) _ f (refl, tree_written t parts.0 0 0))

  pub pairs_written : (ps : TermPairs) → pairs_have_text ps ≡ true → PairsWritten (pair_trees ps)
  pairs_written pairs_end h = tt
  pairs_written (pair key t ps) h = let parts = and_parts _ _ h in (tree_written t parts.0 0 0, pairs_written ps parts.1)

  pub arguments_written : (ts : Terms) → terms_have_text ts ≡ true → Written (arguments_tokens (arguments_of ts))
  arguments_written no_terms h = tt
  arguments_written (term t ts) h =
      let parts = and_parts _ _ h in
      let first : ArgumentRow = OneArgument (Expression (tree_at t 0 0)) in
      both (argument_row_tokens (argument_row_from ts first)) [] (argument_row_written ts parts.1 first (tree_written t parts.0 0 0)) tt

  pub argument_row_written : (ts : Terms) → terms_have_text ts ≡ true → (r : ArgumentRow) → Written (argument_row_tokens r) → Written (argument_row_tokens (argument_row_from ts r))
  argument_row_written no_terms h r f = f
  argument_row_written (term t ts) h r f =
      let parts = and_parts _ _ h in
      argument_row_written ts parts.1 (MoreArguments r (Expression (tree_at t 0 0))) (both (argument_row_tokens r) _ f (refl, tree_written t parts.0 0 0))

  pub with_written : (p : Predicate) (unpromoted : Bool) → predicate_has_text unpromoted p ≡ true → (xs : Arguments) → Written (arguments_tokens xs) → Written (arguments_tokens (arguments_with p xs))
  with_written no_predicate unpromoted h xs f = f
  with_written (predicate b) unpromoted h xs f = then_written xs (block_from b NoLines) f (block_written b h NoLines tt)

  pub block_written : (b : Block) → block_has_text b ≡ true → (ls : Lines) → Written (lines_tokens ls) → Written (program_tokens (block_from b ls))
  block_written (answers t) h ls f = both (lines_tokens ls) _ f (tree_written t h 0 0)
  block_written (line key t b) h ls f =
      let parts = and_parts _ _ h in
      let more = and_parts _ _ parts.1 in
      block_written b more.1 (MoreLines ls key (tree_at t 0 0)) (both (lines_tokens ls) _ f (refl, (parts.0, (refl, both (tokens_of (tree_at t 0 0)) _ (tree_written t more.0 0 0) (refl, tt)))))

  pub else_of_written : (b : Block) → block_has_text b ≡ true → Written (else_tokens (else_of b))
  else_of_written (answers t) h = else_written (tree_at t 0 0) (tree_written t h 0 0)
  else_of_written (line key t b) h =
      let parts = and_parts _ _ h in
      let more = and_parts _ _ parts.1 in
      let p = block_from b (MoreLines NoLines key (tree_at t 0 0)) in
      (refl, both (program_tokens p) _ (block_written b more.1 (MoreLines NoLines key (tree_at t 0 0)) (refl, (parts.0, (refl, both (tokens_of (tree_at t 0 0)) _ (tree_written t more.0 0 0) (refl, tt))))) (refl, tt))

pub printed_written : (b : Block) → block_has_text b ≡ true → Written (program_tokens (printed_tree b))
printed_written b h = block_written b h NoLines tt

-- what can be written fits
token_fits : (t : Token) → token_has_text t ≡ true → IntegerFits t
token_fits (token.Integer None) h = absurd (false≢true h)
token_fits (token.Integer (Some n)) h = tt
token_fits (token.Word w) h = tt
token_fits t h = tt

pub written_fits : (ts : List Token) → Written ts → AllByRecursion IntegerFits ts
written_fits [] h = tt
written_fits (t ∷ ts) h = (token_fits t h.0, written_fits ts h.1)
