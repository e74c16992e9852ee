-- Which tree a node has where nothing is beside it: an `if`, a call, operands with an operator between, or another one.
use Rattle.std.proofs.Common.{◌≡◌, ℕ, suc, ℤ, pos, negsuc, nat_lt, Bool, true, false, ◌||◌, List, [], ◌∷◌, ◌++◌, Option, Some, None, if◌then◌else◌, refl, sym, ap, ◌∙◌, arith}
use Rattle.std.proofs.lemmas.Bool.{false≢true}
use Rattle.std.proofs.lemmas.Bool.Decides.{nat_tests}
use Rattle.expr_tokens.proofs.Such.{bare, by_layers}
use Rattle.expr_tokens.specs.Grammar.{Tree, Name, HashName, If, Call, Prefix, Infix, Pipe, Ternary, Bound as BoundTree, LeftOut, At, infix_level, prefix_level}
use Rattle.expr_tokens.specs.declared.operator_sign.InfixSign.{InfixSign}
use Rattle.expr_tokens.specs.Tokens.{is_hash_name}
use Rattle.expr_tokens.specs.Reading.{pieces_text}
use Rattle.expr_tokens.specs.declared.sign.Sign.TheVariants as sign
use Rattle.expr_tree.specs.Term.{Term, name, literal, list, mapping, range, call, unary, operation, postfix, choice, Postfix, index, slice, coalesce, pipe, ternary, method, Bound, unbounded, bound}
use Rattle.expr_value.specs.declared.value.Value.{Value, map-Value, fold-roll-Value}
use Rattle.expr_value.specs.declared.value.Value.TheOpen.{Value-F}
use Rattle.expr_text.specs.Brackets.{colon_by, is_bound, infix_needs_brackets, is_choice_term, joins_behind, term_joins, bound_joins}
use Rattle.expr_text.specs.Layout.{signed, joins_operands, has_operator, beside_bound, colon_text}
use Rattle.expr_text.specs.Texts.{is_call_term}
use Rattle.expr_text.specs.Trees.{infix_of, prefix_of, infix_catch, prefix_catch, in_brackets, member_word, is_item, index_by, literal_layer, literal_tree, piped, tree_at, bound_of}

data Kind : Type 0 where
  Other : Kind
  Choice : Kind
  Called : Kind
  Joined : Kind

abbrev tree_kind : Tree → Kind
tree_kind (If c a e) = Choice
tree_kind (Call w xs) = Called
tree_kind (Infix o l r) = Joined
tree_kind (Pipe l w xs) = Joined
tree_kind (Ternary c a b) = Joined
tree_kind t = Other

-- what pipes into a tree of this kind
abbrev piped_kind : Kind → Kind
piped_kind Called = Joined
piped_kind k = Other

abbrev mutual
  term_kind : Term → Kind
  term_kind (name key) = Other
  term_kind (literal v) = Other
  term_kind (list ts) = Other
  term_kind (mapping ps) = Other
  term_kind (range l r) = Joined
  term_kind (call key ts p) = Called
  term_kind (unary o t) = Other
  term_kind (operation o l r) = Joined
  term_kind (postfix p t) = postfix_kind p
  term_kind (choice c a b) = Choice

  postfix_kind : Postfix → Kind
  postfix_kind (index key optional) = Other
  postfix_kind (slice a b) = Other
  postfix_kind (coalesce u) = Joined
  postfix_kind (pipe u) = piped_kind (term_kind u)
  postfix_kind (ternary u v) = Joined
  postfix_kind (method key ts) = Other

layer_kind : (y : Value-F Tree) → tree_kind (literal_layer y) ≡ Other
layer_kind (Value-F.Integer (pos n)) = refl
layer_kind (Value-F.Integer (negsuc n)) = refl
layer_kind (Value-F.Bool true) = refl
layer_kind (Value-F.Bool false) = refl
layer_kind y = refl

literal_kind : (v : Value) → tree_kind (literal_tree v) ≡ Other
literal_kind = by_layers (λ v. tree_kind (literal_tree v) ≡ Other) (λ y. ap tree_kind (fold-roll-Value Tree literal_layer (bare y)) ∙ layer_kind (map-Value Value Tree literal_tree (bare y)))

name_kind : (b : Bool) (key : List ℕ) → tree_kind (if b then HashName key else Name key) ≡ Other
name_kind true key = refl
name_kind false key = refl

none_below : (n : ℕ) → nat_lt n 0 ≡ false
none_below n = grind (arith, nat_tests)

or_false : (a b : Bool) → a ≡ false → b ≡ false → (a || b) ≡ false
or_false a b e f = ap (λ c. c || b) e ∙ f

infix_free : (o : InfixSign) → infix_needs_brackets o 0 0 ≡ false
infix_free o = or_false _ _ (none_below (infix_level o)) (none_below (infix_catch o))

free_kind : (needs : Bool) (t : ℕ → ℕ → Tree) → needs ≡ false → tree_kind (in_brackets needs 0 0 t) ≡ tree_kind (t 0 0)
free_kind true t e = absurd (false≢true (sym e))
free_kind false t e = refl

prefix_kind : (needs : Bool) (t : ℕ → ℕ → Tree) → tree_kind (t 0 0) ≡ Other → tree_kind (in_brackets needs 0 0 t) ≡ Other
prefix_kind true t h = refl
prefix_kind false t h = h

index_kind : (o : Option (List ℕ)) (item optional : Bool) (l i : Tree) → tree_kind (index_by o item optional l i) ≡ Other
index_kind (Some w) true false l i = refl
index_kind (Some w) true true l i = refl
index_kind (Some w) false optional l i = refl
index_kind None item optional l i = refl

pipe_kind : (l t : Tree) → tree_kind (piped l t) ≡ piped_kind (tree_kind t)
pipe_kind l (If c a e) = refl
pipe_kind l (Call w xs) = refl
pipe_kind l (Infix o x y) = refl
pipe_kind l (Pipe x w xs) = refl
pipe_kind l (Ternary c a b) = refl
pipe_kind l t = refl

mutual
  kind_at : (t : Term) → tree_kind (tree_at t 0 0) ≡ term_kind t
  kind_at (name key) = name_kind (is_hash_name key) key
  kind_at (literal v) = literal_kind v
  kind_at (list ts) = refl
  kind_at (mapping ps) = refl
  kind_at (range l r) = refl
  kind_at (call key ts p) = refl
  kind_at (unary o t) = prefix_kind (nat_lt (prefix_catch (prefix_of o)) 0) (λ c d. Prefix (prefix_of o) (tree_at t (prefix_level (prefix_of o)) d)) refl
  kind_at (operation o l r) =
      free_kind (infix_needs_brackets (infix_of o) 0 0) (λ c d. Infix (infix_of o) (tree_at l c (infix_level (infix_of o))) (tree_at r (suc (infix_catch (infix_of o))) d)) (infix_free (infix_of o))
  kind_at (postfix p t) = postfix_kind_at p t
  kind_at (choice c a b) = refl

  postfix_kind_at : (p : Postfix) (t : Term) → tree_kind (tree_at (postfix p t) 0 0) ≡ postfix_kind p
  postfix_kind_at (index key optional) t = index_kind (member_word key) (is_item t) optional (tree_at t 0 13) (tree_at key 0 0)
  postfix_kind_at (slice a b) t = refl
  postfix_kind_at (coalesce u) t = refl
  postfix_kind_at (pipe u) t = pipe_kind (tree_at t 0 2) (tree_at u 0 0) ∙ ap piped_kind (kind_at u)
  postfix_kind_at (ternary u v) t = refl
  postfix_kind_at (method key ts) t = refl

-- an `if`
abbrev is_choice : Kind → Bool
is_choice Choice = true
is_choice k = false

abbrev pub is_if : Tree → Bool
is_if (If c a e) = true
is_if t = false

if_kind : (t : Tree) → is_if t ≡ is_choice (tree_kind t)
if_kind (If c a e) = refl
if_kind (Call w xs) = refl
if_kind (Infix o x y) = refl
if_kind (Pipe x w xs) = refl
if_kind (Ternary c a b) = refl
if_kind t = refl

no_choice : (p : Postfix) → is_choice (postfix_kind p) ≡ false
no_choice (pipe u) = by (term_kind u)
  where
    by : (k : Kind) → is_choice (piped_kind k) ≡ false
    by Called = refl
    by k = refl
no_choice p = refl

term_choice : (t : Term) → is_choice (term_kind t) ≡ is_choice_term t
term_choice (choice c a b) = refl
term_choice (postfix p t) = no_choice p
term_choice t = refl

pub if_at : (t : Term) → is_if (tree_at t 0 0) ≡ is_choice_term t
if_at t = if_kind (tree_at t 0 0) ∙ ap is_choice (kind_at t) ∙ term_choice t

-- operands with an operator between
abbrev is_joined : Kind → Bool
is_joined Joined = true
is_joined k = false

joined_kind : (t : Tree) → joins_operands t ≡ is_joined (tree_kind t)
joined_kind (If c a e) = refl
joined_kind (Call w xs) = refl
joined_kind (Infix o x y) = refl
joined_kind (Pipe x w xs) = refl
joined_kind (Ternary c a b) = refl
joined_kind t = refl

abbrev is_called : Kind → Bool
is_called Called = true
is_called k = false

piped_joined : (k : Kind) → is_joined (piped_kind k) ≡ is_called k
piped_joined Called = refl
piped_joined k = refl

not_called : (p : Postfix) → is_called (postfix_kind p) ≡ false
not_called (pipe u) = by (term_kind u)
  where
    by : (k : Kind) → is_called (piped_kind k) ≡ false
    by Called = refl
    by k = refl
not_called p = refl

term_called : (t : Term) → is_called (term_kind t) ≡ is_call_term t
term_called (call key ts p) = refl
term_called (postfix p t) = not_called p
term_called t = refl

behind_joined : (p : Postfix) → is_joined (postfix_kind p) ≡ joins_behind p
behind_joined (pipe u) = piped_joined (term_kind u) ∙ term_called u
behind_joined p = refl

term_joined : (t : Term) → is_joined (term_kind t) ≡ term_joins t
term_joined (postfix p t) = behind_joined p
term_joined t = refl

joins_at : (t : Term) → joins_operands (tree_at t 0 0) ≡ term_joins t
joins_at t = joined_kind (tree_at t 0 0) ∙ ap is_joined (kind_at t) ∙ term_joined t

pub bound_joined : (b : Bound) → has_operator (bound_of b) ≡ bound_joins b
bound_joined unbounded = refl
bound_joined (bound t) = joins_at t

-- the colon of a slice
is_at : BoundTree → Bool
is_at LeftOut = false
is_at (At t) = true

colon_spread : (wide : Bool) (a b : BoundTree) → colon_by wide (is_at a) (is_at b) ≡ pieces_text (beside_bound wide a ++ signed sign.Colon ∷ beside_bound wide b)
unfolding is_at
colon_spread false LeftOut LeftOut = refl
colon_spread false LeftOut (At t) = refl
colon_spread false (At s) LeftOut = refl
colon_spread false (At s) (At t) = refl
colon_spread true LeftOut LeftOut = refl
colon_spread true LeftOut (At t) = refl
colon_spread true (At s) LeftOut = refl
colon_spread true (At s) (At t) = refl

bound_is : (b : Bound) → is_bound b ≡ is_at (bound_of b)
unfolding is_at
bound_is unbounded = refl
bound_is (bound t) = refl

pub colon_is : (a b : Bound) (wide first second : Bool) → wide ≡ (bound_joins a || bound_joins b) → first ≡ is_bound a → second ≡ is_bound b → colon_by wide first second ≡ colon_text (bound_of a) (bound_of b)
colon_is a b wide first second is ea eb =
    (λ i. colon_by ((is ∙ (λ j. sym (bound_joined a) j || sym (bound_joined b) j)) i) ((ea ∙ bound_is a) i) ((eb ∙ bound_is b) i))
    ∙ colon_spread (has_operator (bound_of a) || has_operator (bound_of b)) (bound_of a) (bound_of b)
