-- The tree in which a program is printed: brackets stand where the grammar needs them, and nowhere else.
use Rattle.std.specs.Prelude.{ℕ, suc, ℤ, pos, negsuc, nat_lt, Bool, true, false, ◌||◌, List, [], ◌∷◌, Option, Some, None, codes, bytes_eq, if◌then◌else◌}
use Rattle.expr_value.specs.declared.value.Value.{Value, fold-Value}
use Rattle.expr_value.specs.declared.value.Value.TheOpen.{Value-F}
use Rattle.expr_value.specs.declared.value.Value.TheVariants as value
use Rattle.expr_tokens.specs.Lexer.{reserved_of}
use Rattle.expr_tokens.specs.Tokens.{is_word, is_hash_name}
use Rattle.expr_tree.specs.Term.{Term, name, literal, list, mapping, range, call, unary, operation, postfix, choice, Postfix, index, slice, coalesce, pipe, ternary, method, Bound as BoundTerm, unbounded, bound, Terms, no_terms, term, TermPairs, pairs_end, pair, Predicate, no_predicate, predicate, Block, answers, line}
use Rattle.expr_functions.specs.declared.operator.Operator.{Operator}
use Rattle.expr_functions.specs.declared.operator.Operator.TheVariants as operator
use Rattle.expr_functions.specs.declared.operator.UnaryOperator.{UnaryOperator}
use Rattle.expr_functions.specs.declared.operator.UnaryOperator.TheVariants as prefixed
use Rattle.expr_tokens.specs.declared.operator_sign.PrefixSign.{PrefixSign}
use Rattle.expr_tokens.specs.declared.operator_sign.PrefixSign.TheVariants as prefix
use Rattle.expr_tokens.specs.declared.operator_sign.InfixSign.{InfixSign}
use Rattle.expr_tokens.specs.declared.operator_sign.InfixSign.TheVariants as infixed
use Rattle.expr_tokens.specs.Grammar.{Word, Usual, ReservedWord, True, False, Nil, Integer, Quoted, Bytes, Key, WordKey, QuotedKey, EntryRow, OneEntry, MoreEntries, Entries, NoEntries, SomeEntries, Tree, Literal, Name, HashName, Field, Paren, Array, Map, Call, If, Prefix, Infix, Member, Method, Index, Slice, Pipe, Ternary, Items, NoItems, SomeItems, Row, One, More, Arguments, NoArguments, SomeArguments, ArgumentRow, OneArgument, MoreArguments, Expression, Braces, Bound, LeftOut, At, ElsePart, Else, ElseIf, TreeProgram, Program, Lines, NoLines, MoreLines, infix_level, prefix_level}

-- the signs in which operators are printed: words for `and`, `or` and `not`
abbrev pub prefix_of : UnaryOperator → PrefixSign
prefix_of prefixed.Not = prefix.Not
prefix_of prefixed.Positive = prefix.Positive
prefix_of prefixed.Negative = prefix.Negative

abbrev pub infix_of : Operator → InfixSign
infix_of operator.Add = infixed.Add
infix_of operator.Subtract = infixed.Subtract
infix_of operator.Multiply = infixed.Multiply
infix_of operator.Divide = infixed.Divide
infix_of operator.Modulo = infixed.Modulo
infix_of operator.Pow = infixed.Caret
infix_of operator.Equal = infixed.Equal
infix_of operator.NotEqual = infixed.NotEqual
infix_of operator.GreaterThan = infixed.Greater
infix_of operator.GreaterThanOrEqual = infixed.GreaterEqual
infix_of operator.LessThan = infixed.Less
infix_of operator.LessThanOrEqual = infixed.LessEqual
infix_of operator.And = infixed.And
infix_of operator.Or = infixed.Or
infix_of operator.In = infixed.In
infix_of operator.NotIn = infixed.NotIn
infix_of operator.Contains = infixed.Contains
infix_of operator.StartsWith = infixed.StartsWith
infix_of operator.EndsWith = infixed.EndsWith
infix_of operator.Matches = infixed.Matches

-- An operator captures the levels above this one.
abbrev pub infix_catch : InfixSign → ℕ
infix_catch infixed.Caret = 10
infix_catch infixed.StarStar = 10
infix_catch o = infix_level o

abbrev pub prefix_catch : PrefixSign → ℕ
prefix_catch prefix.Not = 7
prefix_catch prefix.Bang = 7
prefix_catch prefix.Positive = 9
prefix_catch prefix.Negative = 9

-- A place in a text: the least level that may begin there uncaptured (the operator before it captures what is at least so
-- tight; 0: nothing is before it), and the level of the operator that follows (0: none). Each is a function of both, and an
-- expression stands in brackets where it isn't captured by what is before it, or captures what follows. Nothing is before or
-- behind it inside them.
abbrev pub in_brackets : Bool → (left right : ℕ) → (ℕ → ℕ → Tree) → Tree
in_brackets true left right t = Paren (t 0 0)
in_brackets false left right t = t left right

abbrev pub infix_at : InfixSign → (l r : ℕ → ℕ → Tree) → (left right : ℕ) → Tree
infix_at o l r left right =
    in_brackets (nat_lt (infix_level o) left || nat_lt (infix_catch o) right) left right (λ a b. Infix o (l a (infix_level o)) (r (suc (infix_catch o)) b))

abbrev pub prefix_at : PrefixSign → (t : ℕ → ℕ → Tree) → (left right : ℕ) → Tree
prefix_at o t left right = in_brackets (nat_lt (prefix_catch o) right) left right (λ a b. Prefix o (t (prefix_level o) b))

abbrev pub ternary_at : (c : ℕ → ℕ → Tree) (first second : Tree) → (left right : ℕ) → Tree
ternary_at c first second left right = in_brackets (nat_lt 1 left || nat_lt 0 right) left right (λ a b. Ternary (c a 1) first second)

-- the call of a pipe; what pipes into anything else has no text
abbrev pub piped : Tree → Tree → Tree
piped l (Call w xs) = Pipe l w xs
piped l t = Literal Nil

abbrev pub pipe_at : (l : ℕ → ℕ → Tree) (t : Tree) → (left right : ℕ) → Tree
pipe_at l t left right = in_brackets (nat_lt 2 left) left right (λ a b. piped (l a 2) t)

-- a word, reserved or not
abbrev pub word_of : List ℕ → Word
word_of w = elim (reserved_of w) [ Some r ↦ ReservedWord r | None ↦ Usual w ]

-- a key is written as a word where it is one
abbrev pub printed_key : List ℕ → Key
printed_key k = if is_word k then WordKey (word_of k) else QuotedKey k

-- the word of a member
abbrev pub word_of_text : List ℕ → Option (List ℕ)
word_of_text s = if is_word s then Some s else None

abbrev pub member_word : Term → Option (List ℕ)
member_word (literal (value.String s)) = word_of_text s
member_word t = None

-- `#` alone
abbrev pub is_item : Term → Bool
is_item (name key) = bytes_eq key (codes "#")
is_item t = false

-- an index by a word is a member, and one of `#` a field
abbrev pub member_by : (item optional : Bool) → Tree → Word → Tree
member_by true false l w = Field w
member_by true true l w = Member l true w
member_by false optional l w = Member l optional w

abbrev pub index_by : Option (List ℕ) → (item optional : Bool) → Tree → Tree → Tree
index_by (Some w) item optional l i = member_by item optional l (word_of w)
index_by None item optional l i = Index l optional i

-- entries of a map
abbrev pub entry_row_from : List (List ℕ × Tree) → EntryRow → EntryRow
entry_row_from [] r = r
entry_row_from (p ∷ ps) r = entry_row_from ps (MoreEntries r (printed_key p.0) p.1)

abbrev pub map_entries : List (List ℕ × Tree) → Entries
map_entries [] = NoEntries
map_entries (p ∷ ps) = SomeEntries (entry_row_from ps (OneEntry (printed_key p.0) p.1)) false

-- A literal; what has none is written as nil.
abbrev pub integer_tree : ℤ → Tree
integer_tree (pos n) = Literal (Integer (Some (pos n)))
integer_tree (negsuc n) = Literal Nil

abbrev pub truth_tree : Bool → Tree
truth_tree true = Literal True
truth_tree false = Literal False

abbrev pub literal_layer : Value-F Tree → Tree
literal_layer (Value-F.Integer n) = integer_tree n
literal_layer (Value-F.Bool b) = truth_tree b
literal_layer (Value-F.String s) = Literal (Quoted s)
literal_layer (Value-F.Bytes bs) = Literal (Bytes bs)
literal_layer (Value-F.Map pairs) = Map (map_entries pairs)
literal_layer _ = Literal Nil

abbrev pub literal_tree : Value → Tree
literal_tree = fold-Value Tree literal_layer

abbrev pub name_tree : List ℕ → Tree
name_tree key = if is_hash_name key then HashName key else Name key

-- what follows `else`: an `if` follows at once
abbrev pub else_with : Tree → ElsePart
else_with (If c a e) = ElseIf c a e
else_with t = Else (Program NoLines t)

-- a program among the arguments stands last
abbrev pub arguments_then : Arguments → TreeProgram → Arguments
arguments_then NoArguments p = SomeArguments (OneArgument (Braces p)) false
arguments_then (SomeArguments r comma) p = SomeArguments (MoreArguments r (Braces p)) false

abbrev mutual
  pub tree_at : Term → (left right : ℕ) → Tree
  tree_at (name key) a b = name_tree key
  tree_at (literal v) a b = literal_tree v
  tree_at (list ts) a b = Array (items_of ts)
  tree_at (mapping ps) a b = Map (map_entries (pair_trees ps))
  tree_at (range first last) a b = infix_at infixed.Range (tree_at first) (tree_at last) a b
  tree_at (call key ts p) a b = Call key (arguments_with p (arguments_of ts))
  tree_at (unary o t) a b = prefix_at (prefix_of o) (tree_at t) a b
  tree_at (operation o l r) a b = infix_at (infix_of o) (tree_at l) (tree_at r) a b
  tree_at (postfix p t) a b = postfix_at p (is_item t) (tree_at t) a b
  tree_at (choice c first second) a b = If (tree_at c 0 0) (block_from first NoLines) (else_of second)

  pub postfix_at : Postfix → (item : Bool) (l : ℕ → ℕ → Tree) → (left right : ℕ) → Tree
  postfix_at (index key optional) item l a b = index_by (member_word key) item optional (l a 13) (tree_at key 0 0)
  postfix_at (slice start stop) item l a b = Slice (l a 13) (bound_of start) (bound_of stop)
  postfix_at (coalesce t) item l a b = infix_at infixed.Coalesce l (tree_at t) a b
  postfix_at (pipe t) item l a b = pipe_at l (tree_at t 0 0) a b
  postfix_at (ternary first second) item l a b = ternary_at l (tree_at first 0 0) (tree_at second 0 0) a b
  postfix_at (method key ts) item l a b = Method (l a 13) (word_of key) (items_of ts)

  pub bound_of : BoundTerm → Bound
  bound_of unbounded = LeftOut
  bound_of (bound t) = At (tree_at t 0 0)

  pub items_of : Terms → Items
  items_of no_terms = NoItems
  items_of (term t ts) = SomeItems (row_from ts (One (tree_at t 0 0))) false

  pub row_from : Terms → Row → Row
  row_from no_terms r = r
  row_from (term t ts) r = row_from ts (More r (tree_at t 0 0))

  pub pair_trees : TermPairs → List (List ℕ × Tree)
  pair_trees pairs_end = []
  pair_trees (pair key t ps) = (key, tree_at t 0 0) ∷ pair_trees ps

  pub arguments_of : Terms → Arguments
  arguments_of no_terms = NoArguments
  arguments_of (term t ts) = SomeArguments (argument_row_from ts (OneArgument (Expression (tree_at t 0 0)))) false

  pub argument_row_from : Terms → ArgumentRow → ArgumentRow
  argument_row_from no_terms r = r
  argument_row_from (term t ts) r = argument_row_from ts (MoreArguments r (Expression (tree_at t 0 0)))

  pub arguments_with : Predicate → Arguments → Arguments
  arguments_with no_predicate xs = xs
  arguments_with (predicate b) xs = arguments_then xs (block_from b NoLines)

  pub block_from : Block → Lines → TreeProgram
  block_from (answers t) ls = Program ls (tree_at t 0 0)
  block_from (line key t b) ls = block_from b (MoreLines ls key (tree_at t 0 0))

  pub else_of : Block → ElsePart
  else_of (answers t) = else_with (tree_at t 0 0)
  else_of (line key t b) = Else (block_from b (MoreLines NoLines key (tree_at t 0 0)))

-- the tree of a program's text
abbrev pub printed_tree : Block → TreeProgram
printed_tree b = block_from b NoLines
