-- The tree of a program fits: brackets stand wherever they must.
use Rattle.std.proofs.Common.{◌≡◌, ℕ, suc, ◌<◌, ◌≤◌, Bool, true, false, pos, negsuc, List, [], ◌∷◌, Option, Some, None, sym, subst, arith, lit<, lit≤}
use Rattle.std.specs.List.{AllByRecursion}
use Rattle.std.proofs.lemmas.Bool.{or_parts, ltb-false, cond-true, cond-false}
use Rattle.expr_value.specs.declared.value.Value.{Value, map-Value, fold-roll-Value}
use Rattle.expr_value.specs.declared.value.Value.TheOpen.{Value-F}
use Rattle.expr_tokens.specs.Tokens.{is_hash_name}
use Rattle.expr_tree.specs.Term.{Term, name, literal, list, mapping, range, call, unary, operation, postfix, choice, Postfix, index, slice, coalesce, pipe, ternary, method, Bound as BoundTerm, unbounded, bound, Terms, no_terms, term, TermPairs, pairs_end, pair, Predicate, no_predicate, predicate, Block, answers, line}
use Rattle.expr_tokens.specs.declared.operator_sign.PrefixSign.{PrefixSign}
use Rattle.expr_tokens.specs.declared.operator_sign.PrefixSign.TheVariants as prefix
use Rattle.expr_tokens.specs.declared.operator_sign.InfixSign.{InfixSign}
use Rattle.expr_tokens.specs.declared.operator_sign.InfixSign.TheVariants as infixed
use Rattle.expr_tokens.specs.Grammar.{Word, EntryRow, Tree, Literal, Field, Paren, Array, Map, Call, If, Prefix, Infix, Member, Method, Index, Slice, Pipe, Ternary, Items, Row, Arguments, NoArguments, SomeArguments, ArgumentRow, Bound, TreeProgram, Lines, NoLines, infix_level, prefix_level, InfixCaptures, AtLevel, AllCaptured, NoneCaptures, TreeFits, ItemsFit, RowFits, EntriesFit, EntryRowFits, ArgumentsFit, ArgumentRowFits, BoundFits, ElseFits, Fits, LinesFit}
use Rattle.expr_text.specs.Trees.{prefix_of, infix_of, infix_catch, prefix_catch, in_brackets, infix_at, prefix_at, ternary_at, piped, pipe_at, word_of, member_word, is_item, member_by, index_by, entry_row_from, map_entries, truth_tree, literal_layer, literal_tree, name_tree, else_with, arguments_then, tree_at, postfix_at, bound_of, items_of, row_from, pair_trees, arguments_of, argument_row_from, arguments_with, block_from, else_of, printed_tree}
use Rattle.expr_tokens.proofs.Such.{Such, pairs_of, bare, with_each, by_layers}

-- a tree fits at a place: what begins it is captured by what is before it, and nothing at its end captures what follows
pub record FitsAt (t : Tree) (left right : ℕ) : Type 0 where
  pub fits : TreeFits t
  pub begins : AllCaptured (λ p. left ≤ p) t
  pub ends : 0 < right → NoneCaptures right t

-- a tree for each place
abbrev pub Placed : (ℕ → ℕ → Tree) → Type 0
Placed t = (a b : ℕ) → a ≤ 13 → FitsAt (t a b) a b

-- primaries fit everywhere
abbrev IsPrimary : Tree → Type 0
IsPrimary (Prefix o t) = ⊥
IsPrimary (Infix o l r) = ⊥
IsPrimary (Member l optional w) = ⊥
IsPrimary (Method l w xs) = ⊥
IsPrimary (Index l optional i) = ⊥
IsPrimary (Slice l a b) = ⊥
IsPrimary (Pipe l w xs) = ⊥
IsPrimary (Ternary c a b) = ⊥
IsPrimary t = Unit {0}

primary : (t : Tree) → IsPrimary t → TreeFits t → (a b : ℕ) → FitsAt t a b
primary (Prefix o t) p f a b = absurd p
primary (Infix o l r) p f a b = absurd p
primary (Member l optional w) p f a b = absurd p
primary (Method l w xs) p f a b = absurd p
primary (Index l optional i) p f a b = absurd p
primary (Slice l s e) p f a b = absurd p
primary (Pipe l w xs) p f a b = absurd p
primary (Ternary c s e) p f a b = absurd p
primary t p f a b = record { fits = f; begins = (tt, tt); ends = λ _. ((λ h. h), tt) }

-- what captures
pub captures_above : (o : InfixSign) (p : ℕ) → InfixCaptures o p → infix_catch o < p
captures_above infixed.Caret p h = omega (arith, h)
captures_above infixed.StarStar p h = omega (arith, h)
captures_above o p h = h

pub above_captures : (o : InfixSign) (p : ℕ) → suc (infix_catch o) ≤ p → InfixCaptures o p
above_captures infixed.Caret p h = omega (arith, h)
above_captures infixed.StarStar p h = omega (arith, h)
above_captures o p h = omega (arith, h)

pub catch_within : (o : InfixSign) → suc (infix_catch o) ≤ 13
catch_within infixed.Or = lit≤ tt
catch_within o = lit≤ tt

pub level_positive : (o : InfixSign) → 0 < infix_level o
level_positive infixed.Or = lit< tt
level_positive o = lit< tt

pub prefix_above : (o : PrefixSign) (p : ℕ) → prefix_level o ≤ p → prefix_catch o < p
prefix_above prefix.Not p h = omega (arith, h)
prefix_above prefix.Bang p h = omega (arith, h)
prefix_above prefix.Positive p h = omega (arith, h)
prefix_above prefix.Negative p h = omega (arith, h)

pub prefix_within : (o : PrefixSign) → prefix_level o ≤ 13
prefix_within prefix.Not = lit≤ tt
prefix_within o = lit≤ tt

module _ (P Q : ℕ → Type 0) (weaker : (p : ℕ) → P p → Q p) where
  pub at_weaker : (t : Tree) → AtLevel P t → AtLevel Q t
  at_weaker (Infix o l r) h = weaker (infix_level o) h
  at_weaker (Member l optional w) h = weaker 13 h
  at_weaker (Method l w xs) h = weaker 13 h
  at_weaker (Index l optional i) h = weaker 13 h
  at_weaker (Slice l a b) h = weaker 13 h
  at_weaker (Pipe l w xs) h = weaker 2 h
  at_weaker (Ternary c a b) h = weaker 1 h
  at_weaker t h = tt

  pub all_weaker : (ts : List Tree) → AllByRecursion (AtLevel P) ts → AllByRecursion (AtLevel Q) ts
  all_weaker [] h = tt
  all_weaker (t ∷ ts) h = (at_weaker t h.0, all_weaker ts h.1)

-- in brackets, or as it is
brackets_fit : (needs : Bool) (a b : ℕ) (t : ℕ → ℕ → Tree) → TreeFits (t 0 0) → (needs ≡ false → FitsAt (t a b) a b) → FitsAt (in_brackets needs a b t) a b
brackets_fit true a b t f h = primary (Paren (t 0 0)) tt f a b
brackets_fit false a b t f h = h (λ _. false)

-- infixes
module _ (o : InfixSign) (l r : ℕ → ℕ → Tree) (at_left : Placed l) (at_right : Placed r) where
  infix_inside : (a b : ℕ) → a ≤ 13 → TreeFits (Infix o (l a (infix_level o)) (r (suc (infix_catch o)) b))
  infix_inside a b h =
      let first = at_left a (infix_level o) h in
      let second = at_right (suc (infix_catch o)) b (catch_within o) in
      (first.fits, second.fits, first.ends (level_positive o), all_weaker (λ p. suc (infix_catch o) ≤ p) (InfixCaptures o) (above_captures o) _ second.begins)

  infix_fits : Placed (infix_at o l r)
  infix_fits a b h =
      brackets_fit _ a b _ (infix_inside 0 0 (lit≤ tt)) (λ e.
      let parts = or_parts _ _ e in
      let low : a ≤ infix_level o = ltb-false _ _ parts.0 in
      let loose : b ≤ infix_catch o = ltb-false _ _ parts.1 in
      record {
        fits = infix_inside a b h;
        begins = (low, (at_left a (infix_level o) h).begins);
        ends = λ some. ((λ c. let above : infix_catch o < b = captures_above o b c in omega (arith, above, loose)), (at_right (suc (infix_catch o)) b (catch_within o)).ends some);
      })

-- prefixes
module _ (o : PrefixSign) (t : ℕ → ℕ → Tree) (placed : Placed t) where
  prefix_inside : (b : ℕ) → TreeFits (Prefix o (t (prefix_level o) b))
  prefix_inside b = let inner = placed (prefix_level o) b (prefix_within o) in (inner.fits, inner.begins)

  prefix_fits : Placed (prefix_at o t)
  prefix_fits a b h =
      brackets_fit _ a b _ (prefix_inside 0) (λ e.
      let loose : b ≤ prefix_catch o = ltb-false _ _ e in
      record {
        fits = prefix_inside b;
        begins = (tt, tt);
        ends = λ some. ((λ c. let above : prefix_catch o < b = prefix_above o b c in omega (arith, above, loose)), (placed (prefix_level o) b (prefix_within o)).ends some);
      })

-- ternaries
module _ (c : ℕ → ℕ → Tree) (placed : Placed c) (first second : Tree) (f : TreeFits first) (g : TreeFits second) where
  ternary_inside : (a : ℕ) → a ≤ 13 → TreeFits (Ternary (c a 1) first second)
  ternary_inside a h = let inner = placed a 1 h in (inner.fits, f, g, inner.ends (lit< tt))

  ternary_fits : Placed (ternary_at c first second)
  ternary_fits a b h =
      brackets_fit _ a b _ (ternary_inside 0 (lit≤ tt)) (λ e.
      let parts = or_parts _ _ e in
      let low : a ≤ 1 = ltb-false _ _ parts.0 in
      let none : b ≤ 0 = ltb-false _ _ parts.1 in
      record {
        fits = ternary_inside a h;
        begins = (low, (placed a 1 h).begins);
        ends = λ some. absurd (omega (arith, some, none));
      })

-- pipes
module _ (l : ℕ → ℕ → Tree) (placed : Placed l) where
  pipe_inside : (a : ℕ) → a ≤ 13 → (t : Tree) → TreeFits t → TreeFits (piped (l a 2) t)
  pipe_inside a h (Call w xs) f = let inner = placed a 2 h in (inner.fits, inner.ends (lit< tt), f)
  pipe_inside a h t f = tt

  pipe_as_is : (a b : ℕ) → a ≤ 13 → a ≤ 2 → (t : Tree) → TreeFits t → FitsAt (piped (l a 2) t) a b
  pipe_as_is a b h low (Call w xs) f = record { fits = pipe_inside a h (Call w xs) f; begins = (low, (placed a 2 h).begins); ends = λ _. ((λ c. c), tt) }
  pipe_as_is a b h low t f = primary (Literal _) tt tt a b

  pipe_fits : (t : Tree) → TreeFits t → Placed (pipe_at l t)
  pipe_fits t f a b h = brackets_fit _ a b _ (pipe_inside 0 (lit≤ tt) t f) (λ e. pipe_as_is a b h (ltb-false _ _ e) t f)

  -- what stands tight behind an operand
  module _ (a b : ℕ) (h : a ≤ 13) where
    member_fits : (item optional : Bool) (w : Word) → FitsAt (member_by item optional (l a 13) w) a b
    member_fits true false w = primary (Field w) tt tt a b
    member_fits true true w = let inner = placed a 13 h in record { fits = (inner.fits, inner.ends (lit< tt)); begins = (h, inner.begins); ends = λ _. ((λ c. c), tt) }
    member_fits false optional w = let inner = placed a 13 h in record { fits = (inner.fits, inner.ends (lit< tt)); begins = (h, inner.begins); ends = λ _. ((λ c. c), tt) }

    index_fits : (w : Option (List ℕ)) (item optional : Bool) (i : Tree) → TreeFits i → FitsAt (index_by w item optional (l a 13) i) a b
    index_fits (Some w) item optional i f = member_fits item optional (word_of w)
    index_fits None item optional i f = let inner = placed a 13 h in record { fits = (inner.fits, inner.ends (lit< tt), f); begins = (h, inner.begins); ends = λ _. ((λ c. c), tt) }

    slice_fits : (start stop : Bound) → BoundFits start → BoundFits stop → FitsAt (Slice (l a 13) start stop) a b
    slice_fits start stop f g = let inner = placed a 13 h in record { fits = (inner.fits, inner.ends (lit< tt), f, g); begins = (h, inner.begins); ends = λ _. ((λ c. c), tt) }

    method_fits : (w : Word) (xs : Items) → ItemsFit xs → FitsAt (Method (l a 13) w xs) a b
    method_fits w xs f = let inner = placed a 13 h in record { fits = (inner.fits, inner.ends (lit< tt), f); begins = (h, inner.begins); ends = λ _. ((λ c. c), tt) }

-- entries of maps
abbrev pub EntriesAllFit : List (List ℕ × Tree) → Type 0
EntriesAllFit ps = AllByRecursion (λ (p : List ℕ × Tree). TreeFits p.1) ps

entry_row_fits : (ps : List (List ℕ × Tree)) (r : EntryRow) → EntriesAllFit ps → EntryRowFits r → EntryRowFits (entry_row_from ps r)
entry_row_fits [] r h f = f
entry_row_fits (p ∷ ps) r h f = entry_row_fits ps _ h.1 (f, h.0)

entries_fit : (ps : List (List ℕ × Tree)) → EntriesAllFit ps → EntriesFit (map_entries ps)
entries_fit [] h = tt
entries_fit (p ∷ ps) h = entry_row_fits ps _ h.1 h.0

-- literals
abbrev FitsLiteral : Value → Type 0
FitsLiteral v = IsPrimary (literal_tree v) × TreeFits (literal_tree v)

literal_pairs : (ps : List (List ℕ × Such FitsLiteral)) → EntriesAllFit (with_each literal_tree (pairs_of ps))
literal_pairs [] = tt
literal_pairs (p ∷ ps) = (p.1.1.1, literal_pairs ps)

abbrev FitsLayer : Tree → Type 0
FitsLayer t = IsPrimary t × TreeFits t

truth_fits : (b : Bool) → FitsLayer (truth_tree b)
truth_fits true = (tt, tt)
truth_fits false = (tt, tt)

literal_layer_fits : (y : Value-F (Such FitsLiteral)) → FitsLayer (literal_layer (map-Value Value Tree literal_tree (bare y)))
literal_layer_fits (Value-F.Integer (pos n)) = (tt, tt)
literal_layer_fits (Value-F.Integer (negsuc n)) = (tt, tt)
literal_layer_fits (Value-F.Bool b) = truth_fits b
literal_layer_fits (Value-F.Map ps) = (tt, entries_fit _ (literal_pairs ps))
literal_layer_fits _ = (tt, tt)

literal_fits : (v : Value) → FitsLiteral v
literal_fits = by_layers FitsLiteral (λ y. subst FitsLayer (sym (fold-roll-Value Tree literal_layer (bare y))) (literal_layer_fits y))

name_fits : (key : List ℕ) (b : Bool) → is_hash_name key ≡ b → FitsLayer (name_tree key)
name_fits key true e = subst FitsLayer (sym (cond-true _ _ _ e)) (tt, tt)
name_fits key false e = subst FitsLayer (sym (cond-false _ _ _ e)) (tt, tt)

else_fits : (t : Tree) → TreeFits t → ElseFits (else_with t)
else_fits (If c a e) f = f
else_fits t f = (tt, f)

arguments_then_fit : (xs : Arguments) (p : TreeProgram) → ArgumentsFit xs → Fits p → ArgumentsFit (arguments_then xs p)
arguments_then_fit NoArguments p f g = g
arguments_then_fit (SomeArguments r comma) p f g = (f, g)

mutual
  pub tree_fits : (t : Term) → Placed (tree_at t)
  tree_fits (name key) a b h = let f = name_fits key (is_hash_name key) (λ _. is_hash_name key) in primary (name_tree key) f.0 f.1 a b
  tree_fits (literal v) a b h = let f = literal_fits v in primary (literal_tree v) f.0 f.1 a b
  tree_fits (list ts) a b h = primary (Array (items_of ts)) tt (items_fit ts) a b
  tree_fits (mapping ps) a b h = primary (Map (map_entries (pair_trees ps))) tt (entries_fit _ (pairs_fit ps)) a b
  tree_fits (range first last) a b h = infix_fits infixed.Range (tree_at first) (tree_at last) (tree_fits first) (tree_fits last) a b h
  tree_fits (call key ts p) a b h = primary (Call key _) tt (arguments_with_fit p (arguments_of ts) (arguments_fit ts)) a b
  tree_fits (unary o t) a b h = prefix_fits (prefix_of o) (tree_at t) (tree_fits t) a b h
  tree_fits (operation o l r) a b h = infix_fits (infix_of o) (tree_at l) (tree_at r) (tree_fits l) (tree_fits r) a b h
  tree_fits (postfix p t) a b h = postfix_fits p (is_item t) (tree_at t) (tree_fits t) a b h
  tree_fits (choice c first second) a b h = primary (If _ _ _) tt ((tree_fits c 0 0 (lit≤ tt)).fits, block_fits first NoLines tt, else_of_fits second) a b

  pub postfix_fits : (p : Postfix) (item : Bool) (l : ℕ → ℕ → Tree) → Placed l → Placed (postfix_at p item l)
  postfix_fits (index key optional) item l placed a b h = index_fits l placed a b h (member_word key) item optional (tree_at key 0 0) (tree_fits key 0 0 (lit≤ tt)).fits
  postfix_fits (slice start stop) item l placed a b h = slice_fits l placed a b h (bound_of start) (bound_of stop) (bound_fits start) (bound_fits stop)
  postfix_fits (coalesce t) item l placed a b h = infix_fits infixed.Coalesce l (tree_at t) placed (tree_fits t) a b h
  postfix_fits (pipe t) item l placed a b h = pipe_fits l placed (tree_at t 0 0) (tree_fits t 0 0 (lit≤ tt)).fits a b h
  postfix_fits (ternary first second) item l placed a b h = ternary_fits l placed (tree_at first 0 0) (tree_at second 0 0) (tree_fits first 0 0 (lit≤ tt)).fits (tree_fits second 0 0 (lit≤ tt)).fits a b h
  postfix_fits (method key ts) item l placed a b h = method_fits l placed a b h (word_of key) (items_of ts) (items_fit ts)

  pub bound_fits : (x : BoundTerm) → BoundFits (bound_of x)
  bound_fits unbounded = tt
  bound_fits (bound t) = (tree_fits t 0 0 (lit≤ tt)).fits

  pub items_fit : (ts : Terms) → ItemsFit (items_of ts)
  items_fit no_terms = tt
  items_fit (term t ts) = row_fits ts _ (tree_fits t 0 0 (lit≤ tt)).fits

  pub row_fits : (ts : Terms) (r : Row) → RowFits r → RowFits (row_from ts r)
  row_fits no_terms r f = f
  row_fits (term t ts) r f = row_fits ts _ (f, (tree_fits t 0 0 (lit≤ tt)).fits)

  pub pairs_fit : (ps : TermPairs) → EntriesAllFit (pair_trees ps)
  pairs_fit pairs_end = tt
  pairs_fit (pair key t ps) = ((tree_fits t 0 0 (lit≤ tt)).fits, pairs_fit ps)

  pub arguments_fit : (ts : Terms) → ArgumentsFit (arguments_of ts)
  arguments_fit no_terms = tt
  arguments_fit (term t ts) = argument_row_fits ts _ (tree_fits t 0 0 (lit≤ tt)).fits

  pub argument_row_fits : (ts : Terms) (r : ArgumentRow) → ArgumentRowFits r → ArgumentRowFits (argument_row_from ts r)
  argument_row_fits no_terms r f = f
  argument_row_fits (term t ts) r f = argument_row_fits ts _ (f, (tree_fits t 0 0 (lit≤ tt)).fits)

  pub arguments_with_fit : (p : Predicate) (xs : Arguments) → ArgumentsFit xs → ArgumentsFit (arguments_with p xs)
  arguments_with_fit no_predicate xs f = f
  arguments_with_fit (predicate b) xs f = arguments_then_fit xs _ f (block_fits b NoLines tt)

  pub block_fits : (b : Block) (ls : Lines) → LinesFit ls → Fits (block_from b ls)
  block_fits (answers t) ls f = (f, (tree_fits t 0 0 (lit≤ tt)).fits)
  block_fits (line key t b) ls f = block_fits b _ (f, (tree_fits t 0 0 (lit≤ tt)).fits)

  pub else_of_fits : (b : Block) → ElseFits (else_of b)
  else_of_fits (answers t) = else_fits (tree_at t 0 0) (tree_fits t 0 0 (lit≤ tt)).fits
  else_of_fits (line key t b) = block_fits b _ (tt, (tree_fits t 0 0 (lit≤ tt)).fits)

-- the tree of a program fits, whatever the program
pub printed_fits : (b : Block) → Fits (printed_tree b)
printed_fits b = block_fits b NoLines tt
