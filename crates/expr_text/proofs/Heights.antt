-- The tree of a program is no higher than any tree that it is the program of.
use Rattle.std.proofs.Common.{◌≡◌, ℕ, suc, ◌<◌, ◌≤◌, nat_lt, ◌||◌, pos, negsuc, Bool, true, false, cond, List, [], ◌∷◌, ◌++◌, map, Option, Some, None, codes, bytes_eq, is_some, if◌then◌else◌, refl, sym, ap, subst, arith, ⊎_elim}
use Rattle.std.specs.List.{AllByRecursion}
use Rattle.std.proofs.lemmas.Bool.{or_cases, ltb-true, cond-true, cond-false}
use Rattle.expr_functions.specs.Functions.{higher_order_named}
use Rattle.expr_functions.specs.declared.functions.HigherOrderCall.{HigherOrderCall}
use Rattle.expr_value.specs.Names.{put, put_all}
use Rattle.expr_value.specs.declared.value.Value.{Value, roll-Value, fold-roll-Value}
use Rattle.expr_value.specs.declared.value.Value.TheOpen.{Value-F}
use Rattle.expr_value.specs.declared.value.Value.TheVariants as value
use Rattle.expr_tokens.specs.Tokens.{is_word, is_hash_name}
use Rattle.expr_tree.specs.Term.{Term, literal, call, Predicate, no_predicate, predicate, answers, LineTerms, block_with, term_pairs}
use Rattle.expr_tree.specs.TermOf.{terms_of}
use Rattle.expr_parts.specs.Maps.{map_term, has_expression, literal_pairs}
use Rattle.expr_parts.specs.Promotion.{has_free_hash, Promotion, reduces, last_promotion, reducer_promotion, promoted_by, promotion_of, call_of}
use Rattle.expr_tokens.specs.declared.operator_sign.PrefixSign.{PrefixSign}
use Rattle.expr_tokens.specs.declared.operator_sign.PrefixSign.TheVariants as prefix
use Rattle.expr_tokens.specs.declared.operator_sign.InfixSign.{InfixSign}
use Rattle.expr_tokens.specs.declared.operator_sign.InfixSign.TheVariants as infixed
use Rattle.expr_tokens.specs.Height.{height, items_height, row_height, entries_height, entry_row_height, arguments_height, argument_row_height, argument_height, bound_height, else_height, program_height, lines_height}
use Rattle.expr_tokens.specs.Grammar.{Word, Constant, True, False, Nil, Integer, Quoted, Raw, Bytes, EntryRow, OneEntry, MoreEntries, Entries, NoEntries, SomeEntries, Tree, Literal, Name, HashName, Field, Paren, Array, Map, Call, If, Prefix, Infix, Member, Method, Index, Slice, Pipe, Ternary, Items, NoItems, SomeItems, Row, One, More, Arguments, NoArguments, SomeArguments, ArgumentRow, OneArgument, MoreArguments, Argument, Expression, Braces, Bound, LeftOut, At, ElsePart, Else, ElseIf, TreeProgram, Program, Lines, NoLines, MoreLines, infix_level, prefix_level, InfixCaptures, AtLevel, left_spine, AllCaptured, NoneCaptures, TreeFits, ItemsFit, RowFits, EntriesFit, EntryRowFits, ArgumentsFit, ArgumentRowFits, ArgumentFits, BoundFits, ElseFits, Fits, LinesFit, word_token, member_token, infix_tokens, index_tokens, tokens_of, items_tokens, row_tokens, entries_tokens, entry_row_tokens, arguments_tokens, argument_row_tokens, argument_tokens, bound_tokens, else_tokens, program_tokens, lines_tokens}
use Rattle.expr_parts.specs.declared.frame.Meaning.{Meaning}
use Rattle.expr_parts.specs.declared.frame.Meaning.TheVariants as meaning
use Rattle.expr_parts.specs.Programs.{word_text, constant_value, prefix_operator, infix_meaning, infix_term, else_before, tree_term, items_terms, row_terms, entries_pairs, entry_row_pairs, argument_terms, argument_row_terms, expression_terms, last_predicate, last_predicate_in_row, argument_predicate, bound_term, else_block, program_of, line_terms}
use Rattle.expr_text.specs.Trees.{prefix_of, infix_of, infix_catch, prefix_catch, in_brackets, infix_at, prefix_at, ternary_at, pipe_at, word_of, printed_key, word_of_text, member_word, is_item, member_by, index_by, entry_row_from, map_entries, literal_layer, literal_tree, name_tree, else_with, arguments_then, tree_at, bound_of, items_of, row_from, pair_trees, arguments_of, argument_row_from, arguments_with, block_from, else_of, printed_tree}
use Rattle.expr_text.specs.Texts.{token_has_text}
use Rattle.expr_text.proofs.Complete.{Written, front, back, word_is_word}
use Rattle.expr_text.proofs.Fitting.{captures_above, above_captures, all_weaker}
use Rattle.expr_text.proofs.Distinct.{Named}

-- what is made of a tree at each place: one higher at most, and no higher where the tree itself fits
record Heights (made : ℕ → ℕ → Tree) (t : Tree) : Type 0 where
  pub lax : (a b : ℕ) → height (made a b) ≤ suc (height t)
  pub low : (a b : ℕ) → AllCaptured (λ p. a ≤ p) t → (0 < b → NoneCaptures b t) → height (made a b) ≤ height t

free : (ts : List Tree) → AllByRecursion (AtLevel (λ p. 0 ≤ p)) ts
free [] = tt
free (t ∷ ts) = (by t, free ts)
  where
    by : (t : Tree) → AtLevel (λ p. 0 ≤ p) t
    by (Infix o l r) = omega arith
    by (Member l optional w) = omega arith
    by (Method l w xs) = omega arith
    by (Index l optional i) = omega arith
    by (Slice l a b) = omega arith
    by (Pipe l w xs) = omega arith
    by (Ternary c a b) = omega arith
    by t = tt

none_follows : {P : Type 0} → 0 < 0 → P
none_follows h = absurd (omega (arith, h))

module _ {made : ℕ → ℕ → Tree} {t : Tree} (h : Heights made t) where
  alone : height (made 0 0) ≤ height t
  alone = h.low 0 0 (free (left_spine t)) none_follows

  -- before an operator of a level, and behind one
  before_level : (level : ℕ) → NoneCaptures level t → height (made 0 level) ≤ height t
  before_level level n = h.low 0 level (free (left_spine t)) (λ _. n)

  behind : (least : ℕ) → AllCaptured (λ p. least ≤ p) t → height (made least 0) ≤ height t
  behind least c = h.low least 0 c none_follows

  in_paren : Heights made (Paren t)
  in_paren = record { lax = λ a b. let one = h.lax a b in omega (arith, one); low = λ a b _ _. h.lax a b }

-- what is the same at each place
same_height : (x t : Tree) → height x ≤ height t → Heights (λ a b. x) t
same_height x t h = record { lax = λ a b. omega (arith, h); low = λ a b _ _. h }

level_of_sign : Meaning → InfixSign
level_of_sign (meaning.Operator o) = infix_of o
level_of_sign meaning.Range = infixed.Range
level_of_sign meaning.Default = infixed.Coalesce

same_level : (o : InfixSign) → infix_level (level_of_sign (infix_meaning o)) ≡ infix_level o
unfolding level_of_sign
same_level infixed.Or = refl
same_level o = refl

same_catch : (o : InfixSign) → infix_catch (level_of_sign (infix_meaning o)) ≡ infix_catch o
unfolding level_of_sign
same_catch infixed.Or = refl
same_catch o = refl

infix_made : (m : Meaning) (x y : Term) → tree_at (infix_term m x y) ≡ infix_at (level_of_sign m) (tree_at x) (tree_at y)
unfolding level_of_sign
infix_made (meaning.Operator o) x y = refl
infix_made meaning.Range x y = refl
infix_made meaning.Default x y = refl

module _ (o p : InfixSign) (level : infix_level p ≡ infix_level o) (catch : infix_catch p ≡ infix_catch o) (l r : Tree) (ml mr : ℕ → ℕ → Tree) (hl : Heights ml l) (hr : Heights mr r)
    (ends : NoneCaptures (infix_level o) l) (begins : AllCaptured (InfixCaptures o) r) where
  caught : AllCaptured (λ q. suc (infix_catch p) ≤ q) r
  caught = all_weaker (InfixCaptures o) (λ q. suc (infix_catch p) ≤ q) (λ q c. let above : infix_catch o < q = captures_above o q c in omega (arith, above, catch)) (left_spine r) begins

  ends_same : NoneCaptures (infix_level p) l
  ends_same = subst (λ n. NoneCaptures n l) (sym level) ends

  lax_by : (needs : Bool) (a b : ℕ) → height (in_brackets needs a b (λ c d. Infix p (ml c (infix_level p)) (mr (suc (infix_catch p)) d))) ≤ suc (height (Infix o l r))
  lax_by true a b = let f = before_level hl (infix_level p) ends_same in let g = behind hr (suc (infix_catch p)) caught in omega (arith, f, g)
  lax_by false a b = let f = hl.lax a (infix_level p) in let g = hr.lax (suc (infix_catch p)) b in omega (arith, f, g)

  low_by : (needs : Bool) (a b : ℕ) → (needs ≡ true → ⊥) → AllCaptured (λ q. a ≤ q) (Infix o l r) → (0 < b → NoneCaptures b (Infix o l r))
      → height (in_brackets needs a b (λ c d. Infix p (ml c (infix_level p)) (mr (suc (infix_catch p)) d))) ≤ height (Infix o l r)
  low_by true a b no_need f g = absurd (no_need (λ _. true))
  low_by false a b no_need f g =
      let first = hl.low a (infix_level p) f.1 (λ _. ends_same) in
      let second = hr.low (suc (infix_catch p)) b caught (λ some. (g some).1) in
      omega (arith, first, second)

  no_brackets : (a b : ℕ) → AllCaptured (λ q. a ≤ q) (Infix o l r) → (0 < b → NoneCaptures b (Infix o l r)) → (nat_lt (infix_level p) a || nat_lt (infix_catch p) b) ≡ true → ⊥
  no_brackets a b f g e =
      ⊎_elim
      (λ x. let lower : infix_level p < a = ltb-true (infix_level p) a x in let at_least : a ≤ infix_level o = f.0 in omega (arith, lower, at_least, level))
      (λ x.
      let above : infix_catch p < b = ltb-true (infix_catch p) b x in
      (g (omega (arith, above))).0 (above_captures o b (omega (arith, above, catch))))
      (or_cases _ _ e)

  infix_heights : Heights (infix_at p ml mr) (Infix o l r)
  infix_heights = record {
    lax = λ a b. lax_by (nat_lt (infix_level p) a || nat_lt (infix_catch p) b) a b;
    low = λ a b f g. low_by (nat_lt (infix_level p) a || nat_lt (infix_catch p) b) a b (no_brackets a b f g) f g;
  }

prefix_same_level : (o : PrefixSign) → prefix_level (prefix_of (prefix_operator o)) ≡ prefix_level o
prefix_same_level prefix.Not = refl
prefix_same_level o = refl

prefix_catches : (o : PrefixSign) (b : ℕ) → prefix_catch (prefix_of (prefix_operator o)) < b → prefix_level o ≤ b
prefix_catches prefix.Not b h = omega (arith, h)
prefix_catches prefix.Bang b h = omega (arith, h)
prefix_catches prefix.Positive b h = omega (arith, h)
prefix_catches prefix.Negative b h = omega (arith, h)

module _ (o : PrefixSign) (t : Tree) (made : ℕ → ℕ → Tree) (h : Heights made t) (begins : AllCaptured (λ q. prefix_level o ≤ q) t) where
  sign : PrefixSign
  sign = prefix_of (prefix_operator o)

  begins_same : AllCaptured (λ q. prefix_level (prefix_of (prefix_operator o)) ≤ q) t
  begins_same = subst (λ n. AllCaptured (λ q. n ≤ q) t) (sym (prefix_same_level o)) begins

  prefix_lax : (needs : Bool) (a b : ℕ) → height (in_brackets needs a b (λ c d. Prefix (prefix_of (prefix_operator o)) (made (prefix_level (prefix_of (prefix_operator o))) d))) ≤ suc (height (Prefix o t))
  prefix_lax true a b = let f = behind h _ begins_same in omega (arith, f)
  prefix_lax false a b = let f = h.lax (prefix_level (prefix_of (prefix_operator o))) b in omega (arith, f)

  prefix_low : (needs : Bool) (a b : ℕ) → (needs ≡ true → ⊥) → (0 < b → NoneCaptures b (Prefix o t))
      → height (in_brackets needs a b (λ c d. Prefix (prefix_of (prefix_operator o)) (made (prefix_level (prefix_of (prefix_operator o))) d))) ≤ height (Prefix o t)
  prefix_low true a b no_need g = absurd (no_need (λ _. true))
  prefix_low false a b no_need g = let f = h.low (prefix_level (prefix_of (prefix_operator o))) b begins_same (λ some. (g some).1) in omega (arith, f)

  prefix_free : (b : ℕ) → (0 < b → NoneCaptures b (Prefix o t)) → nat_lt (prefix_catch (prefix_of (prefix_operator o))) b ≡ true → ⊥
  prefix_free b g e =
      let above : prefix_catch (prefix_of (prefix_operator o)) < b = ltb-true _ b e in
      (g (omega (arith, above))).0 (prefix_catches o b above)

  prefix_heights : Heights (prefix_at (prefix_of (prefix_operator o)) made) (Prefix o t)
  prefix_heights = record { lax = λ a b. prefix_lax _ a b; low = λ a b f g. prefix_low _ a b (prefix_free b g) g }

module _ (c first second : Tree) (mc : ℕ → ℕ → Tree) (x y : Tree) (h : Heights mc c) (f : height x ≤ height first) (g : height y ≤ height second) (ends : NoneCaptures 1 c) where
  ternary_lax : (needs : Bool) (a b : ℕ) → height (in_brackets needs a b (λ d e. Ternary (mc d 1) x y)) ≤ suc (height (Ternary c first second))
  ternary_lax true a b = let k = before_level h 1 ends in omega (arith, k, f, g)
  ternary_lax false a b = let k = h.lax a 1 in omega (arith, k, f, g)

  ternary_low : (needs : Bool) (a b : ℕ) → (needs ≡ true → ⊥) → AllCaptured (λ q. a ≤ q) (Ternary c first second) → height (in_brackets needs a b (λ d e. Ternary (mc d 1) x y)) ≤ height (Ternary c first second)
  ternary_low true a b no_need k = absurd (no_need (λ _. true))
  ternary_low false a b no_need k = let m = h.low a 1 k.1 (λ _. ends) in omega (arith, m, f, g)

  ternary_free : (a b : ℕ) → AllCaptured (λ q. a ≤ q) (Ternary c first second) → (0 < b → NoneCaptures b (Ternary c first second)) → (nat_lt 1 a || nat_lt 0 b) ≡ true → ⊥
  ternary_free a b k n e =
      ⊎_elim
      (λ z. let lower : 1 < a = ltb-true 1 a z in let at_least : a ≤ 1 = k.0 in omega (arith, lower, at_least))
      (λ z. (n (ltb-true 0 b z)).0 tt)
      (or_cases _ _ e)

  ternary_heights : Heights (ternary_at mc x y) (Ternary c first second)
  ternary_heights = record { lax = λ a b. ternary_lax _ a b; low = λ a b k n. ternary_low _ a b (ternary_free a b k n) k }

module _ (l : Tree) (ml : ℕ → ℕ → Tree) (h : Heights ml l) where
  module _ (w v : List ℕ) (xs ys : Arguments) (f : arguments_height ys ≤ arguments_height xs) (ends : NoneCaptures 2 l) where
    pipe_lax : (needs : Bool) (a b : ℕ) → height (in_brackets needs a b (λ c d. Pipe (ml c 2) v ys)) ≤ suc (height (Pipe l w xs))
    pipe_lax true a b = let k = before_level h 2 ends in omega (arith, k, f)
    pipe_lax false a b = let k = h.lax a 2 in omega (arith, k, f)

    pipe_low : (needs : Bool) (a b : ℕ) → (needs ≡ true → ⊥) → AllCaptured (λ q. a ≤ q) (Pipe l w xs) → height (in_brackets needs a b (λ c d. Pipe (ml c 2) v ys)) ≤ height (Pipe l w xs)
    pipe_low true a b no_need k = absurd (no_need (λ _. true))
    pipe_low false a b no_need k = let m = h.low a 2 k.1 (λ _. ends) in omega (arith, m, f)

    pipe_free : (a : ℕ) → AllCaptured (λ q. a ≤ q) (Pipe l w xs) → nat_lt 2 a ≡ true → ⊥
    pipe_free a k e = let lower : 2 < a = ltb-true 2 a e in let at_least : a ≤ 2 = k.0 in omega (arith, lower, at_least)

    pipe_heights : Heights (pipe_at ml (Call v ys)) (Pipe l w xs)
    pipe_heights = record { lax = λ a b. pipe_lax _ a b; low = λ a b k n. pipe_low _ a b (pipe_free a k) k }

  -- what stands tight behind an operand
  module _ (ends : NoneCaptures 13 l) where
    member_heights : (item optional : Bool) (w v : Word) → Heights (λ a b. member_by item optional (ml a 13) w) (Member l optional v)
    member_heights true false w v = record { lax = λ a b. omega arith; low = λ a b k n. omega arith }
    member_heights true true w v = record { lax = λ a b. let f = h.lax a 13 in omega (arith, f); low = λ a b k n. let f = h.low a 13 k.1 (λ _. ends) in omega (arith, f) }
    member_heights false optional w v = record { lax = λ a b. let f = h.lax a 13 in omega (arith, f); low = λ a b k n. let f = h.low a 13 k.1 (λ _. ends) in omega (arith, f) }

    member_index : (optional : Bool) (v : Word) (y : Tree) → height y ≤ height l → Heights (λ a b. Index (ml a 13) optional y) (Member l optional v)
    member_index optional v y g = record {
      lax = λ a b. let f = h.lax a 13 in omega (arith, f, g);
      low = λ a b k n. let f = h.low a 13 k.1 (λ _. ends) in omega (arith, f, g);
    }

    index_heights : (o : Option (List ℕ)) (item optional : Bool) (i y : Tree) → height y ≤ height i → Heights (λ a b. index_by o item optional (ml a 13) y) (Index l optional i)
    index_heights (Some w) true false i y g = record { lax = λ a b. omega arith; low = λ a b k n. omega arith }
    index_heights (Some w) true true i y g = record { lax = λ a b. let f = h.lax a 13 in omega (arith, f); low = λ a b k n. let f = h.low a 13 k.1 (λ _. ends) in omega (arith, f) }
    index_heights (Some w) false optional i y g = record { lax = λ a b. let f = h.lax a 13 in omega (arith, f); low = λ a b k n. let f = h.low a 13 k.1 (λ _. ends) in omega (arith, f) }
    index_heights None item optional i y g = record { lax = λ a b. let f = h.lax a 13 in omega (arith, f, g); low = λ a b k n. let f = h.low a 13 k.1 (λ _. ends) in omega (arith, f, g) }

    slice_heights : (s e x y : Bound) → bound_height x ≤ bound_height s → bound_height y ≤ bound_height e → Heights (λ a b. Slice (ml a 13) x y) (Slice l s e)
    slice_heights s e x y g k = record { lax = λ a b. let f = h.lax a 13 in omega (arith, f, g, k); low = λ a b c n. let f = h.low a 13 c.1 (λ _. ends) in omega (arith, f, g, k) }

    method_heights : (w v : Word) (xs ys : Items) → items_height ys ≤ items_height xs → Heights (λ a b. Method (ml a 13) v ys) (Method l w xs)
    method_heights w v xs ys g = record { lax = λ a b. let f = h.lax a 13 in omega (arith, f, g); low = λ a b k n. let f = h.low a 13 k.1 (λ _. ends) in omega (arith, f, g) }

-- Lists: all of them are no higher than a number.
abbrev LowTerms : ℕ → List Term → Type 0
LowTerms n ts = AllByRecursion (λ t. height (tree_at t 0 0) ≤ n) ts

abbrev LowLines : ℕ → LineTerms → Type 0
LowLines n ls = AllByRecursion (λ (l : List ℕ × Term). height (tree_at l.1 0 0) ≤ n) ls

abbrev LowPredicate : ℕ → Predicate → Type 0
LowPredicate n no_predicate = Unit {0}
LowPredicate n (predicate b) = program_height (block_from b NoLines) ≤ n

module _ {A : Type 0} (P : A → Type 0) where
  all_both : (xs ys : List A) → AllByRecursion P xs → AllByRecursion P ys → AllByRecursion P (xs ++ ys)
  all_both [] ys h g = g
  all_both (x ∷ xs) ys h g = (h.0, all_both xs ys h.1 g)

module _ (n : ℕ) where
  row_low : (ts : List Term) (r : Row) → row_height r ≤ n → LowTerms n ts → row_height (row_from (terms_of ts) r) ≤ n
  row_low [] r f h = f
  row_low (t ∷ ts) r f h = let first = h.0 in row_low ts (More r (tree_at t 0 0)) (omega (arith, f, first)) h.1

  items_low : (ts : List Term) → LowTerms n ts → items_height (items_of (terms_of ts)) ≤ n
  items_low [] h = omega arith
  items_low (t ∷ ts) h = row_low ts (One (tree_at t 0 0)) h.0 h.1

  argument_row_low : (ts : List Term) (r : ArgumentRow) → argument_row_height r ≤ n → LowTerms n ts → argument_row_height (argument_row_from (terms_of ts) r) ≤ n
  argument_row_low [] r f h = f
  argument_row_low (t ∷ ts) r f h = let first = h.0 in argument_row_low ts (MoreArguments r (Expression (tree_at t 0 0))) (omega (arith, f, first)) h.1

  arguments_low : (ts : List Term) → LowTerms n ts → arguments_height (arguments_of (terms_of ts)) ≤ n
  arguments_low [] h = omega arith
  arguments_low (t ∷ ts) h = argument_row_low ts (OneArgument (Expression (tree_at t 0 0))) h.0 h.1

  then_low : (xs : Arguments) (p : TreeProgram) → arguments_height xs ≤ n → program_height p ≤ n → arguments_height (arguments_then xs p) ≤ n
  then_low NoArguments p f g = g
  then_low (SomeArguments r comma) p f g = omega (arith, f, g)

  with_low : (p : Predicate) (xs : Arguments) → arguments_height xs ≤ n → LowPredicate n p → arguments_height (arguments_with p xs) ≤ n
  with_low no_predicate xs f g = f
  with_low (predicate b) xs f g = then_low xs (block_from b NoLines) f g

  entry_row_low : (ps : List (List ℕ × Tree)) (r : EntryRow) → entry_row_height r ≤ n → AllByRecursion (λ (p : List ℕ × Tree). height p.1 ≤ n) ps → entry_row_height (entry_row_from ps r) ≤ n
  entry_row_low [] r f h = f
  entry_row_low (p ∷ ps) r f h = let first = h.0 in entry_row_low ps (MoreEntries r (printed_key p.0) p.1) (omega (arith, f, first)) h.1

  entries_low : (ps : List (List ℕ × Tree)) → AllByRecursion (λ (p : List ℕ × Tree). height p.1 ≤ n) ps → entries_height (map_entries ps) ≤ n
  entries_low [] h = omega arith
  entries_low (p ∷ ps) h = entry_row_low ps (OneEntry (printed_key p.0) p.1) h.0 h.1

  -- maps
  pairs_low : (ps : LineTerms) → LowLines n ps → AllByRecursion (λ (p : List ℕ × Tree). height p.1 ≤ n) (pair_trees (term_pairs ps))
  pairs_low [] h = tt
  pairs_low (p ∷ ps) h = (h.0, pairs_low ps h.1)

  abbrev LowValues : List Named → Type 0
  LowValues vs = AllByRecursion (λ (p : Named). height (literal_tree p.1) ≤ n) vs

  put_low : (k : List ℕ) (v : Value) (ps : List Named) → height (literal_tree v) ≤ n → LowValues ps → LowValues (put k v ps)
  put_low k v [] g h = (g, tt)
  put_low k v (p ∷ ps) g h = by (put_low k v ps g) (bytes_eq k p.0) (λ _. bytes_eq k p.0)
    where
      by : (LowValues ps → LowValues (put k v ps)) → (b : Bool) → bytes_eq k p.0 ≡ b → LowValues (put k v (p ∷ ps))
      by later true f = subst (λ b. LowValues (cond b ((p.0, v) ∷ ps) (p ∷ put k v ps))) (sym f) (g, h.1)
      by later false f = subst (λ b. LowValues (cond b ((p.0, v) ∷ ps) (p ∷ put k v ps))) (sym f) (h.0, later h.1)

  all_put_low : (done ps : List Named) → LowValues done → LowValues ps → LowValues (put_all done ps)
  all_put_low done [] h g = h
  all_put_low done (p ∷ ps) h g = all_put_low (put p.0 p.1 done) ps (put_low p.0 p.1 done g.0 h) g.1

  literals_low : (ps : LineTerms) → LowLines n ps → LowValues (literal_pairs ps)
  literals_low [] h = tt
  literals_low (p ∷ ps) h = by p.1 (literals_low ps h.1) h.0
    where
      by : (t : Term) → LowValues (literal_pairs ps) → height (tree_at t 0 0) ≤ n → LowValues (literal_pairs ((p.0, t) ∷ ps))
      by (literal v) later g = (g, later)
      by t later g = later

  values_low : (vs : List Named) → LowValues vs → AllByRecursion (λ (p : List ℕ × Tree). height p.1 ≤ n) (map (λ (p : Named). (p.0, literal_tree p.1)) vs)
  values_low [] h = tt
  values_low (v ∷ vs) h = (h.0, values_low vs h.1)

  literal_map_low : (vs : List Named) → LowValues vs → height (literal_tree (value.Map vs)) ≤ suc n
  unfolding roll-Value denote.Hole.Carrier.roll
  literal_map_low vs h =
      let same = ap height (fold-roll-Value Tree literal_layer (Value-F.Map vs)) in
      let inner = entries_low _ (values_low vs h) in
      subst (λ k. k ≤ suc n) (sym same) (omega (arith, inner))

  module _ (t : Tree) (room : suc n ≤ height t) where
    map_heights : (ps : LineTerms) → LowLines n ps → Heights (tree_at (map_term ps)) t
    map_heights ps h = by (has_expression ps) (λ _. has_expression ps)
      where
        by : (b : Bool) → has_expression ps ≡ b → Heights (tree_at (map_term ps)) t
        by true e =
            let inner = entries_low _ (pairs_low ps h) in
            subst (λ (x : Term). Heights (tree_at x) t) (sym (cond-true _ _ _ e)) (same_height (Map (map_entries (pair_trees (term_pairs ps)))) t (omega (arith, inner, room)))
        by false e =
            let inner = literal_map_low (put_all [] (literal_pairs ps)) (all_put_low [] (literal_pairs ps) tt (literals_low ps h)) in
            subst (λ (x : Term). Heights (tree_at x) t) (sym (cond-false _ _ _ e)) (same_height (literal_tree (value.Map (put_all [] (literal_pairs ps)))) t (omega (arith, inner, room)))

  -- programs
  block_low : (ls : LineTerms) (t : Term) → LowLines n ls → height (tree_at t 0 0) ≤ n → (acc : Lines) → lines_height acc ≤ n → program_height (block_from (block_with ls t) acc) ≤ n
  block_low [] t h g acc f = omega (arith, g, f)
  block_low (l ∷ ls) t h g acc f = let first = h.0 in block_low ls t h.1 g (MoreLines acc l.0 (tree_at l.1 0 0)) (omega (arith, f, first))

  else_with_low : (x : Tree) → height x ≤ n → else_height (else_with x) ≤ n
  else_with_low (If c a e) h = h
  else_with_low x h = omega (arith, h)

  else_low : (ls : LineTerms) (t : Term) → LowLines n ls → height (tree_at t 0 0) ≤ n → else_height (else_of (block_with ls t)) ≤ n
  else_low [] t h g = else_with_low (tree_at t 0 0) g
  else_low (l ∷ ls) t h g = let first = h.0 in block_low ls t h.1 g (MoreLines NoLines l.0 (tree_at l.1 0 0)) (omega (arith, first))

  -- promotion
  abbrev LowPromotion : Promotion → Type 0
  LowPromotion p = LowTerms n p.arguments × LowPredicate n p.program

  alone_low : (t : Term) → height (tree_at t 0 0) ≤ n → LowPredicate n (predicate (answers t))
  alone_low t h = omega (arith, h)

  promoted_one : (t : Term) (b : Bool) → height (tree_at t 0 0) ≤ n → LowPromotion (if b then record { arguments = []; program = predicate (answers t) } else record { arguments = t ∷ []; program = no_predicate })
  promoted_one t true h = (tt, alone_low t h)
  promoted_one t false h = ((h, tt), tt)

  last_low : (ts : List Term) → LowTerms n ts → LowPromotion (last_promotion ts)
  last_low [] h = (tt, tt)
  last_low (t ∷ []) h = promoted_one t (has_free_hash t) h.0
  last_low (t ∷ u ∷ ts) h = let rest = last_low (u ∷ ts) h.1 in ((h.0, rest.0), rest.1)

  reducer_low_by : (t u : Term) (ts : List Term) (b c : Bool) → LowTerms n (t ∷ u ∷ ts)
      → LowPromotion (if b then record { arguments = t ∷ ts; program = predicate (answers u) } else (if c then record { arguments = u ∷ ts; program = predicate (answers t) } else record { arguments = t ∷ u ∷ ts; program = no_predicate }))
  reducer_low_by t u ts true c h = ((h.0, h.1.1), alone_low u h.1.0)
  reducer_low_by t u ts false true h = (h.1, alone_low t h.0)
  reducer_low_by t u ts false false h = (h, tt)

  reducer_low : (ts : List Term) → LowTerms n ts → LowPromotion (reducer_promotion ts)
  reducer_low [] h = (tt, tt)
  reducer_low (t ∷ []) h = promoted_one t (has_free_hash t) h.0
  reducer_low (t ∷ u ∷ ts) h = reducer_low_by t u ts (has_free_hash u) (has_free_hash t) h

  promoted_low_by : (ts : List Term) (b c : Bool) → LowTerms n ts → LowPromotion (if b then reducer_promotion ts else (if c then last_promotion ts else record { arguments = ts; program = no_predicate }))
  promoted_low_by ts true c h = reducer_low ts h
  promoted_low_by ts false true h = last_low ts h
  promoted_low_by ts false false h = (h, tt)

  promoted_low : (o : Option HigherOrderCall) (ts : List Term) → LowTerms n ts → LowPromotion (promoted_by o ts)
  promoted_low o ts h = promoted_low_by ts (reduces o) (is_some o) h

  predicate_before : (p q : Predicate) → LowPredicate n p → LowPredicate n q → LowPredicate n (else_before p q)
  predicate_before no_predicate q h g = g
  predicate_before (predicate b) q h g = h

-- the arguments of a call
abbrev arguments_in : Term → Arguments
arguments_in (call key ts p) = arguments_with p (arguments_of ts)
arguments_in t = NoArguments

call_made : (key : List ℕ) (ts : List Term) (p : Predicate) → tree_at (call_of key ts p) ≡ (λ a b. Call key (arguments_in (call_of key ts p)))
call_made key ts (predicate b) = refl
call_made key ts no_predicate = refl

call_low : (n : ℕ) (key : List ℕ) (ts : List Term) (p : Predicate) → LowTerms n ts → LowPredicate n p → arguments_height (arguments_in (call_of key ts p)) ≤ n
call_low n key ts (predicate b) h g = with_low n (predicate b) _ (arguments_low n ts h) g
call_low n key ts no_predicate h g = let made = promoted_low n (higher_order_named key) ts h in with_low n (promotion_of key ts).program _ (arguments_low n _ made.0) made.1

-- words and literals
word_text_of : (s : List ℕ) → is_word s ≡ true → word_of_text s ≡ Some s
word_text_of s h = cond-true (is_word s) (Some s) None h

name_low : (key : List ℕ) → height (name_tree key) ≤ 1
name_low key = by (is_hash_name key) (λ _. is_hash_name key)
  where
    by : (b : Bool) → is_hash_name key ≡ b → height (name_tree key) ≤ 1
    by true e = let same = ap height (cond-true (is_hash_name key) (HashName key) (Name key) e) in omega (arith, same)
    by false e = let same = ap height (cond-false (is_hash_name key) (HashName key) (Name key) e) in omega (arith, same)

string_low : (s : List ℕ) → height (literal_tree (value.String s)) ≤ 1
unfolding roll-Value denote.Hole.Carrier.roll
string_low s = let same = ap height (fold-roll-Value Tree literal_layer (Value-F.String s)) in omega (arith, same)

constant_low : (c : Constant) → height (literal_tree (constant_value c)) ≤ 1
unfolding roll-Value denote.Hole.Carrier.roll
constant_low True = let same = ap height (fold-roll-Value Tree literal_layer (Value-F.Bool true)) in omega (arith, same)
constant_low False = let same = ap height (fold-roll-Value Tree literal_layer (Value-F.Bool false)) in omega (arith, same)
constant_low Nil = let same = ap height (fold-roll-Value Tree literal_layer Value-F.Nil) in omega (arith, same)
constant_low (Integer (Some (pos n))) = let same = ap height (fold-roll-Value Tree literal_layer (Value-F.Integer (pos n))) in omega (arith, same)
constant_low (Integer (Some (negsuc n))) = let same = ap height (fold-roll-Value Tree literal_layer (Value-F.Integer (negsuc n))) in omega (arith, same)
constant_low (Integer None) = let same = ap height (fold-roll-Value Tree literal_layer (Value-F.Integer (pos 0))) in omega (arith, same)
constant_low (Quoted s) = string_low s
constant_low (Raw s) = string_low s
constant_low (Bytes s) = let same = ap height (fold-roll-Value Tree literal_layer (Value-F.Bytes s)) in omega (arith, same)

member_word_written : (optional : Bool) (w : Word) → Written (member_token optional ∷ word_token w ∷ []) → token_has_text (word_token w) ≡ true
member_word_written optional w h = h.1.0

mutual
  tree_heights : (t : Tree) → TreeFits t → Written (tokens_of t) → Heights (tree_at (tree_term t)) t
  tree_heights (Literal c) f h = same_height (literal_tree (constant_value c)) (Literal c) (constant_low c)
  tree_heights (Name w) f h = same_height (name_tree w) (Name w) (name_low w)
  tree_heights (HashName w) f h = same_height (name_tree w) (HashName w) (name_low w)
  tree_heights (Field w) f h =
      subst (λ (o : Option (List ℕ)). Heights (λ a b. index_by o true false (HashName (codes "#")) (literal_tree (value.String (word_text w)))) (Field w)) (sym (word_text_of (word_text w) (word_is_word w h.1.0)))
      (same_height (Field (word_of (word_text w))) (Field w) (omega arith))
  tree_heights (Paren t) f h = in_paren (tree_heights t f (front (tokens_of t) _ h.1))
  tree_heights (Array xs) f h =
      let inner = items_low (items_height xs) (items_terms xs) (items_lows xs f (front (items_tokens xs) _ h.1) (items_height xs) (omega arith)) in
      same_height (Array (items_of (terms_of (items_terms xs)))) (Array xs) (omega (arith, inner))
  tree_heights (Map es) f h = map_heights (entries_height es) (Map es) (omega arith) (entries_pairs es) (entries_lows es f (front (entries_tokens es) _ h.1) (entries_height es) (omega arith))
  tree_heights (Call w xs) f h =
      let parts = arguments_lows xs f (front (arguments_tokens xs) _ h.1.1) (arguments_height xs) (omega arith) in
      let inner = call_low (arguments_height xs) w (argument_terms xs) (last_predicate xs) parts.0 parts.1 in
      subst (λ (m : ℕ → ℕ → Tree). Heights m (Call w xs)) (sym (call_made w (argument_terms xs) (last_predicate xs))) (same_height (Call w _) (Call w xs) (omega (arith, inner)))
  tree_heights (If c a e) f h =
      let g = back (tokens_of c) _ h.1 in
      let first = alone (tree_heights c f.0 (front (tokens_of c) _ h.1)) in
      let second = program_low a f.1 (front (program_tokens a) _ g.1) (program_height a) (omega arith) in
      let third = else_lows e f.2 (back (program_tokens a) _ g.1).1.1 (else_height e) (omega arith) in
      same_height (If (tree_at (tree_term c) 0 0) (block_from (program_of a) NoLines) (else_of (else_block e))) (If c a e) (omega (arith, first, second, third))
  tree_heights (Prefix o t) f h = prefix_heights o t (tree_at (tree_term t)) (tree_heights t f.0 h.1) f.1
  tree_heights (Infix o l r) f h =
      subst (λ (m : ℕ → ℕ → Tree). Heights m (Infix o l r)) (sym (infix_made (infix_meaning o) (tree_term l) (tree_term r)))
      (infix_heights o (level_of_sign (infix_meaning o)) (same_level o) (same_catch o) l r (tree_at (tree_term l)) (tree_at (tree_term r))
      (tree_heights l f.0 (front (tokens_of l) _ h)) (tree_heights r f.1 (back (infix_tokens o) _ (back (tokens_of l) _ h))) f.2 f.3)
  tree_heights (Member l optional w) f h =
      subst (λ (o : Option (List ℕ)). Heights (λ a b. index_by o (is_item (tree_term l)) optional (tree_at (tree_term l) a 13) (literal_tree (value.String (word_text w)))) (Member l optional w))
      (sym (word_text_of (word_text w) (word_is_word w (member_word_written optional w (back (tokens_of l) _ h)))))
      (member_heights l (tree_at (tree_term l)) (tree_heights l f.0 (front (tokens_of l) _ h)) f.1 (is_item (tree_term l)) optional (word_of (word_text w)) w)
  tree_heights (Method l w xs) f h =
      let g = back (tokens_of l) _ h in
      let inner = items_low (items_height xs) (items_terms xs) (items_lows xs f.2 (front (items_tokens xs) _ g.1.1.1) (items_height xs) (omega arith)) in
      method_heights l (tree_at (tree_term l)) (tree_heights l f.0 (front (tokens_of l) _ h)) f.1 w (word_of (word_text w)) xs (items_of (terms_of (items_terms xs))) inner
  tree_heights (Index l optional i) f h =
      let g = tree_heights i f.2 (front (tokens_of i) _ (back (index_tokens optional) _ (back (tokens_of l) _ h))) in
      index_heights l (tree_at (tree_term l)) (tree_heights l f.0 (front (tokens_of l) _ h)) f.1 (member_word (tree_term i)) (is_item (tree_term l)) optional i (tree_at (tree_term i) 0 0) (alone g)
  tree_heights (Slice l a b) f h =
      let g = back (tokens_of l) _ h in
      slice_heights l (tree_at (tree_term l)) (tree_heights l f.0 (front (tokens_of l) _ h)) f.1 a b (bound_of (bound_term a)) (bound_of (bound_term b))
      (bound_low a f.2 (front (bound_tokens a) _ g.1)) (bound_low b f.3 (front (bound_tokens b) _ (back (bound_tokens a) _ g.1).1))
  tree_heights (Pipe l w xs) f h =
      let g = back (tokens_of l) _ h in
      let parts = arguments_lows xs f.2 (front (arguments_tokens xs) _ g.1.1.1) (arguments_height xs) (omega arith) in
      subst (λ (m : ℕ → ℕ → Tree). Heights (pipe_at (tree_at (tree_term l)) (m 0 0)) (Pipe l w xs)) (sym (call_made w (argument_terms xs) (last_predicate xs)))
      (pipe_heights l (tree_at (tree_term l)) (tree_heights l f.0 (front (tokens_of l) _ h)) w w xs _ (call_low (arguments_height xs) w (argument_terms xs) (last_predicate xs) parts.0 parts.1) f.1)
  tree_heights (Ternary c a b) f h =
      let g = back (tokens_of c) _ h in
      ternary_heights c a b (tree_at (tree_term c)) (tree_at (tree_term a) 0 0) (tree_at (tree_term b) 0 0) (tree_heights c f.0 (front (tokens_of c) _ h))
      (alone (tree_heights a f.1 (front (tokens_of a) _ g.1))) (alone (tree_heights b f.2 (back (tokens_of a) _ g.1).1)) f.3

  items_lows : (xs : Items) → ItemsFit xs → Written (items_tokens xs) → (n : ℕ) → items_height xs ≤ n → LowTerms n (items_terms xs)
  items_lows NoItems f h n room = tt
  items_lows (SomeItems r comma) f h n room = row_lows r f (front (row_tokens r) _ h) n room

  row_lows : (r : Row) → RowFits r → Written (row_tokens r) → (n : ℕ) → row_height r ≤ n → LowTerms n (row_terms r)
  row_lows (One t) f h n room = let k = alone (tree_heights t f h) in (omega (arith, k, room), tt)
  row_lows (More r t) f h n room =
      let k = alone (tree_heights t f.1 (back (row_tokens r) _ h).1) in
      all_both (λ (x : Term). height (tree_at x 0 0) ≤ n) (row_terms r) _ (row_lows r f.0 (front (row_tokens r) _ h) n (omega (arith, room))) (omega (arith, k, room), tt)

  entries_lows : (es : Entries) → EntriesFit es → Written (entries_tokens es) → (n : ℕ) → entries_height es ≤ n → LowLines n (entries_pairs es)
  entries_lows NoEntries f h n room = tt
  entries_lows (SomeEntries r comma) f h n room = entry_row_lows r f (front (entry_row_tokens r) _ h) n room

  entry_row_lows : (r : EntryRow) → EntryRowFits r → Written (entry_row_tokens r) → (n : ℕ) → entry_row_height r ≤ n → LowLines n (entry_row_pairs r)
  entry_row_lows (OneEntry key t) f h n room = let k = alone (tree_heights t f h.1.1) in (omega (arith, k, room), tt)
  entry_row_lows (MoreEntries r key t) f h n room =
      let k = alone (tree_heights t f.1 (back (entry_row_tokens r) _ h).1.1.1) in
      all_both (λ (p : List ℕ × Term). height (tree_at p.1 0 0) ≤ n) (entry_row_pairs r) _ (entry_row_lows r f.0 (front (entry_row_tokens r) _ h) n (omega (arith, room))) (omega (arith, k, room), tt)

  arguments_lows : (xs : Arguments) → ArgumentsFit xs → Written (arguments_tokens xs) → (n : ℕ) → arguments_height xs ≤ n → LowTerms n (argument_terms xs) × LowPredicate n (last_predicate xs)
  arguments_lows NoArguments f h n room = (tt, tt)
  arguments_lows (SomeArguments r comma) f h n room = argument_row_lows r f (front (argument_row_tokens r) _ h) n room

  argument_row_lows : (r : ArgumentRow) → ArgumentRowFits r → Written (argument_row_tokens r) → (n : ℕ) → argument_row_height r ≤ n → LowTerms n (argument_row_terms r) × LowPredicate n (last_predicate_in_row r)
  argument_row_lows (OneArgument a) f h n room = argument_lows a f h n room
  argument_row_lows (MoreArguments r a) f h n room =
      let first = argument_row_lows r f.0 (front (argument_row_tokens r) _ h) n (omega (arith, room)) in
      let last = argument_lows a f.1 (back (argument_row_tokens r) _ h).1 n (omega (arith, room)) in
      (all_both (λ (x : Term). height (tree_at x 0 0) ≤ n) (argument_row_terms r) _ first.0 last.0, predicate_before n (argument_predicate a) (last_predicate_in_row r) last.1 first.1)

  argument_lows : (a : Argument) → ArgumentFits a → Written (argument_tokens a) → (n : ℕ) → argument_height a ≤ n → LowTerms n (expression_terms a) × LowPredicate n (argument_predicate a)
  argument_lows (Expression t) f h n room = let k = alone (tree_heights t f h) in ((omega (arith, k, room), tt), tt)
  argument_lows (Braces p) f h n room = (tt, program_low p f (front (program_tokens p) _ h.1) n room)

  bound_low : (x : Bound) → BoundFits x → Written (bound_tokens x) → bound_height (bound_of (bound_term x)) ≤ bound_height x
  bound_low LeftOut f h = omega arith
  bound_low (At t) f h = alone (tree_heights t f h)

  else_lows : (e : ElsePart) → ElseFits e → Written (else_tokens e) → (n : ℕ) → else_height e ≤ n → else_height (else_of (else_block e)) ≤ n
  else_lows (Else (Program ls t)) f h n room =
      let tokens = front (program_tokens (Program ls t)) _ h.1 in
      let last = alone (tree_heights t f.1 (back (lines_tokens ls) _ tokens)) in
      else_low n (line_terms ls) (tree_term t) (lines_lows ls f.0 (front (lines_tokens ls) _ tokens) n (omega (arith, room))) (omega (arith, last, room))
  else_lows (ElseIf c a e) f h n room =
      let g = back (tokens_of c) _ h.1 in
      let first = alone (tree_heights c f.0 (front (tokens_of c) _ h.1)) in
      let second = program_low a f.1 (front (program_tokens a) _ g.1) (program_height a) (omega arith) in
      let third = else_lows e f.2 (back (program_tokens a) _ g.1).1.1 (else_height e) (omega arith) in
      omega (arith, first, second, third, room)

  program_low : (p : TreeProgram) → Fits p → Written (program_tokens p) → (n : ℕ) → program_height p ≤ n → program_height (block_from (program_of p) NoLines) ≤ n
  program_low (Program ls t) f h n room =
      let last = alone (tree_heights t f.1 (back (lines_tokens ls) _ h)) in
      block_low n (line_terms ls) (tree_term t) (lines_lows ls f.0 (front (lines_tokens ls) _ h) n (omega (arith, room))) (omega (arith, last, room)) NoLines (omega arith)

  lines_lows : (ls : Lines) → LinesFit ls → Written (lines_tokens ls) → (n : ℕ) → lines_height ls ≤ n → LowLines n (line_terms ls)
  lines_lows NoLines f h n room = tt
  lines_lows (MoreLines ls w t) f h n room =
      let g = back (lines_tokens ls) _ h in
      let k = alone (tree_heights t f.1 (front (tokens_of t) _ g.1.1.1)) in
      all_both (λ (l : List ℕ × Term). height (tree_at l.1 0 0) ≤ n) (line_terms ls) _ (lines_lows ls f.0 (front (lines_tokens ls) _ h) n (omega (arith, room))) (omega (arith, k, room), tt)

pub printed_low : (p : TreeProgram) → Fits p → Written (program_tokens p) → program_height (printed_tree (program_of p)) ≤ program_height p
printed_low p f h = program_low p f h (program_height p) (omega arith)
