-- The text of each form of node, by the texts of its parts.
use Rattle.std.proofs.Common.{◌≡◌, ℕ, suc, zero, ◌+◌, ◌<◌, nat_lt, ℤ, pos, negsuc, Bool, true, false, not, ◌&&◌, ◌||◌, List, [], ◌∷◌, ◌++◌, map, Option, Some, None, codes, if◌then◌else◌, refl, sym, ap, ◌∙◌, subst, append_assoc, append-nil, arith}
use Rattle.std.proofs.lemmas.Bool.{cond-true, cond-false, false≢true, ltb-true}
use Rattle.std.proofs.lemmas.Bool.Decides.{nat_tests}
use Rattle.expr_error.specs.Quoted.{quoted_text}
use Rattle.expr_functions.specs.declared.operator.Operator.{Operator}
use Rattle.expr_functions.specs.declared.operator.UnaryOperator.{UnaryOperator}
use Rattle.expr_functions.specs.declared.operator.UnaryOperator.TheVariants as prefixed
use Rattle.expr_tokens.proofs.Readings.{pieces_text-append}
use Rattle.expr_tokens.proofs.Words.{reserved_sound}
use Rattle.expr_tokens.specs.Grammar.{Word, Usual, ReservedWord, Tree, Paren, Array, Map, Call, If, Prefix, Infix, Pipe, Ternary, Row, One, More, EntryRow, OneEntry, MoreEntries, ArgumentRow, OneArgument, MoreArguments, Expression, Arguments, TreeProgram, Lines, NoLines, MoreLines, ElsePart, Else, Program, HashName, Name, Member, word_token, key_token, index_tokens, infix_level, prefix_level}
use Rattle.expr_tokens.specs.Lexer.{reserved_of}
use Rattle.expr_tokens.specs.Reading.{Piece, pieces_text}
use Rattle.expr_tokens.specs.Tokens.{is_word, is_hash_name}
use Rattle.expr_tokens.specs.declared.operator_sign.InfixSign.{InfixSign}
use Rattle.expr_tokens.specs.declared.operator_sign.InfixSign.TheVariants as infixed
use Rattle.expr_tokens.specs.declared.operator_sign.PrefixSign.{PrefixSign}
use Rattle.expr_tokens.specs.declared.operator_sign.PrefixSign.TheVariants as prefix
use Rattle.expr_tokens.specs.declared.reserved.Reserved.{Reserved}
use Rattle.expr_tree.specs.Term.{Term, name, literal, list, mapping, range, call, unary, operation, postfix, choice, Postfix, index, slice, coalesce, pipe, ternary, method, Bound, unbounded, bound, Terms, no_terms, term, Predicate, no_predicate, predicate, Block, answers, line, LineTerms, block_with, term_pairs}
use Rattle.expr_text.proofs.TreeKinds.{is_if, if_at}
use Rattle.expr_text.specs.Brackets.{infix_needs_brackets, postfix_needs_brackets, needs_brackets, is_choice_term}
use Rattle.expr_text.specs.Texts.{is_call_term}
use Rattle.expr_tokens.specs.declared.sign.Sign.{Sign}
use Rattle.expr_tokens.specs.declared.sign.Sign.TheVariants as sign
use Rattle.expr_value.specs.declared.value.Value.{Value, roll-Value, map-Value, fold-roll-Value}
use Rattle.expr_value.specs.declared.value.Value.TheOpen.{Value-F}
use Rattle.expr_value.specs.declared.value.Value.TheVariants as value
use Rattle.expr_text.specs.Layout.{spelling, written, signed, space, colon_text, prefix_pieces, infix_pieces, pieces_of, items_pieces, row_pieces, entry_row_pieces, argument_row_pieces, arguments_pieces, program_pieces, lines_pieces, else_pieces, bound_pieces, colon_pieces, program_text}
use Rattle.expr_text.specs.Parts.{placed_text, items_text, pairs_text, lines_text, else_text, bound_text, written_key, infix_at_text, brace_text, open_text, dot_text}
use Rattle.expr_text.specs.Trees.{word_of, member_word, member_by, index_by, literal_layer, literal_tree, else_with, printed_key, name_tree, infix_of, prefix_of, infix_catch, prefix_catch, in_brackets, infix_at, prefix_at, pipe_at, ternary_at, piped, entry_row_from, map_entries, tree_at, postfix_at, bound_of, items_of, row_from, pair_trees, arguments_of, argument_row_from, arguments_then, block_from, else_of, is_item}

-- Brackets.
abbrev closing : Sign → List Piece
closing x = signed x ∷ []

abbrev put_in_brackets : List ℕ → List ℕ
put_in_brackets s = codes "(" ++ (s ++ codes ")")

in_brackets_text : (needs free : Bool) (a b : ℕ) (t : ℕ → ℕ → Tree) → needs ≡ true → free ≡ false
    → pieces_text (pieces_of (in_brackets needs a b t)) ≡ put_in_brackets (pieces_text (pieces_of (in_brackets free 0 0 t)))
in_brackets_text true false a b t e f = ap (λ l. 40 ∷ l) (pieces_text-append (pieces_of (t 0 0)) (closing sign.ParenClose))
in_brackets_text true true a b t e f = absurd (false≢true (sym f))
in_brackets_text false free a b t e f = absurd (false≢true e)

none_below : (n : ℕ) → nat_lt n 0 ≡ false
none_below n = grind (arith, nat_tests)

or_false : (a b : Bool) → a ≡ false → b ≡ false → (a || b) ≡ false
or_false a b e f = ap (λ c. c || b) e ∙ f

infix_free : (o : InfixSign) → infix_needs_brackets o 0 0 ≡ false
infix_free o = or_false _ _ (none_below (infix_level o)) (none_below (infix_catch o))

infix_bracketed : (o : InfixSign) (l r : Term) (a b : ℕ) → infix_needs_brackets o a b ≡ true → infix_at_text o l r a b ≡ put_in_brackets (infix_at_text o l r 0 0)
infix_bracketed o l r a b e =
    in_brackets_text (infix_needs_brackets o a b) (infix_needs_brackets o 0 0) a b (λ c d. Infix o (tree_at l c (infix_level o)) (tree_at r (suc (infix_catch o)) d)) e (infix_free o)

postfix_bracketed : (p : Postfix) (t : Term) (a b : ℕ) → postfix_needs_brackets p a b ≡ true → placed_text (postfix p t) a b ≡ put_in_brackets (placed_text (postfix p t) 0 0)
postfix_bracketed (index key optional) t a b e = absurd (false≢true e)
postfix_bracketed (slice start stop) t a b e = absurd (false≢true e)
postfix_bracketed (coalesce u) t a b e = infix_bracketed infixed.Coalesce t u a b e
postfix_bracketed (pipe u) t a b e = in_brackets_text (nat_lt 2 a) false a b (λ c d. piped (tree_at t c 2) (tree_at u 0 0)) e refl
postfix_bracketed (ternary u v) t a b e = in_brackets_text (nat_lt 1 a || nat_lt 0 b) false a b (λ c d. Ternary (tree_at t c 1) (tree_at u 0 0) (tree_at v 0 0)) e refl
postfix_bracketed (method key ts) t a b e = absurd (false≢true e)

pub bracketed : (t : Term) (a b : ℕ) → needs_brackets t a b ≡ true → placed_text t a b ≡ put_in_brackets (placed_text t 0 0)
bracketed (name key) a b e = absurd (false≢true e)
bracketed (literal v) a b e = absurd (false≢true e)
bracketed (list ts) a b e = absurd (false≢true e)
bracketed (mapping ps) a b e = absurd (false≢true e)
bracketed (range l r) a b e = infix_bracketed infixed.Range l r a b e
bracketed (call key ts p) a b e = absurd (false≢true e)
bracketed (unary o t) a b e =
    in_brackets_text (nat_lt (prefix_catch (prefix_of o)) b) (nat_lt (prefix_catch (prefix_of o)) 0) a b (λ c d. Prefix (prefix_of o) (tree_at t (prefix_level (prefix_of o)) d)) e (none_below (prefix_catch (prefix_of o)))
bracketed (operation o l r) a b e = infix_bracketed (infix_of o) l r a b e
bracketed (postfix p t) a b e = postfix_bracketed p t a b e
bracketed (choice c first second) a b e = absurd (false≢true e)

-- what stands in brackets has something before it or behind it
some_before : (n left : ℕ) → nat_lt n left ≡ true → 0 < left
some_before n left e = let h = ltb-true n left e in omega (arith, h)

or_parts : (a b : Bool) (left right : ℕ) → (a ≡ true → 0 < left) → (b ≡ true → 0 < right) → (a || b) ≡ true → 0 < left + right
or_parts true b left right f g e = let h = f refl in omega (arith, h)
or_parts false b left right f g e = let h = g e in omega (arith, h)

infix_beside : (o : InfixSign) (a b : ℕ) → infix_needs_brackets o a b ≡ true → 0 < a + b
infix_beside o a b e = or_parts _ _ a b (some_before (infix_level o) a) (some_before (infix_catch o) b) e

postfix_beside : (p : Postfix) (a b : ℕ) → postfix_needs_brackets p a b ≡ true → 0 < a + b
postfix_beside (index key optional) a b e = absurd (false≢true e)
postfix_beside (slice start stop) a b e = absurd (false≢true e)
postfix_beside (coalesce u) a b e = infix_beside infixed.Coalesce a b e
postfix_beside (pipe u) a b e = let h = some_before 2 a e in omega (arith, h)
postfix_beside (ternary u v) a b e = or_parts _ _ a b (some_before 1 a) (some_before 0 b) e
postfix_beside (method key ts) a b e = absurd (false≢true e)

pub beside : (t : Term) (a b : ℕ) → needs_brackets t a b ≡ true → 0 < a + b
beside (name key) a b e = absurd (false≢true e)
beside (literal v) a b e = absurd (false≢true e)
beside (list ts) a b e = absurd (false≢true e)
beside (mapping ps) a b e = absurd (false≢true e)
beside (range l r) a b e = infix_beside infixed.Range a b e
beside (call key ts p) a b e = absurd (false≢true e)
beside (unary o t) a b e = let h = some_before (prefix_catch (prefix_of o)) b e in omega (arith, h)
beside (operation o l r) a b e = infix_beside (infix_of o) a b e
beside (postfix p t) a b e = postfix_beside p a b e
beside (choice c first second) a b e = absurd (false≢true e)

bare : (needs : Bool) (a b : ℕ) (t : ℕ → ℕ → Tree) → needs ≡ false → pieces_text (pieces_of (in_brackets needs a b t)) ≡ pieces_text (pieces_of (t a b))
bare true a b t e = absurd (false≢true (sym e))
bare false a b t e = refl

-- Operators.
pub infix_bare : (o : InfixSign) (l r : Term) (a b : ℕ) → infix_needs_brackets o a b ≡ false
    → infix_at_text o l r a b ≡ placed_text l a (infix_level o) ++ ((codes " " ++ (pieces_text (infix_pieces o) ++ codes " ")) ++ placed_text r (suc (infix_catch o)) b)
infix_bare o l r a b e =
    let left = tree_at l a (infix_level o) in
    let right = tree_at r (suc (infix_catch o)) b in
    let sign = pieces_text (infix_pieces o) in
    bare (infix_needs_brackets o a b) a b (λ c d. Infix o (tree_at l c (infix_level o)) (tree_at r (suc (infix_catch o)) d)) e
    ∙ pieces_text-append (pieces_of left) _
    ∙ ap (λ s. pieces_text (pieces_of left) ++ 32 ∷ s) (pieces_text-append (infix_pieces o) _ ∙ sym (append_assoc sign (codes " ") (pieces_text (pieces_of right))))

pub prefix_bare : (o : UnaryOperator) (t : Term) (a b : ℕ) → needs_brackets (unary o t) a b ≡ false
    → placed_text (unary o t) a b ≡ pieces_text (prefix_pieces (prefix_of o)) ++ placed_text t (prefix_level (prefix_of o)) b
prefix_bare o t a b e =
    bare (nat_lt (prefix_catch (prefix_of o)) b) a b (λ c d. Prefix (prefix_of o) (tree_at t (prefix_level (prefix_of o)) d)) e
    ∙ pieces_text-append (prefix_pieces (prefix_of o)) _

-- Lists.
row_text : (ts : Terms) (r : Row) → pieces_text (row_pieces (row_from ts r)) ≡ pieces_text (row_pieces r) ++ items_text false ts
row_text no_terms r = sym (append-nil _)
row_text (term t ts) r =
    row_text ts (More r (tree_at t 0 0))
    ∙ ap (λ s. s ++ items_text false ts) (pieces_text-append (row_pieces r) _)
    ∙ append_assoc (pieces_text (row_pieces r)) (codes ", " ++ placed_text t 0 0) (items_text false ts)

pub all_items_text : (ts : Terms) → pieces_text (items_pieces (items_of ts)) ≡ items_text true ts
all_items_text no_terms = refl
all_items_text (term t ts) = pieces_text-append (row_pieces (row_from ts (One (tree_at t 0 0)))) [] ∙ append-nil _ ∙ row_text ts (One (tree_at t 0 0))

pub list_text : (ts : Terms) → placed_text (list ts) 0 0 ≡ codes "[" ++ (items_text true ts ++ codes "]")
list_text ts = ap (λ l. 91 ∷ l) (pieces_text-append (items_pieces (items_of ts)) (closing sign.SquareClose) ∙ ap (λ l. l ++ codes "]") (all_items_text ts))

word_by : (w : List ℕ) (o : Option Reserved) → reserved_of w ≡ o → spelling (word_token (elim o [ Some r ↦ ReservedWord r | None ↦ Usual w ])) ≡ w
word_by w (Some r) e = reserved_sound w r e
word_by w None e = refl

pub word_spelled : (w : List ℕ) → spelling (word_token (word_of w)) ≡ w
word_spelled w = word_by w (reserved_of w) (λ _. reserved_of w)

key_by : (k : List ℕ) (b : Bool) → is_word k ≡ b → spelling (key_token (printed_key k)) ≡ written_key k
key_by k true e = ap (λ x. spelling (key_token x)) (cond-true _ _ _ e) ∙ word_spelled k ∙ sym (cond-true _ _ _ e)
key_by k false e = ap (λ x. spelling (key_token x)) (cond-false _ _ _ e) ∙ sym (cond-false _ _ _ e)

pub key_spelled : (k : List ℕ) → spelling (key_token (printed_key k)) ≡ written_key k
key_spelled k = key_by k (is_word k) (λ _. is_word k)

-- a key and a tree, and what follows
pub entry_text : (k : List ℕ) (t : Tree) → spelling (key_token (printed_key k)) ++ (codes ": " ++ pieces_text (pieces_of t)) ≡ written_key k ++ (codes ": " ++ pieces_text (pieces_of t))
entry_text k t = ap (λ s. s ++ (codes ": " ++ pieces_text (pieces_of t))) (key_spelled k)

entry_row_text : (ps : LineTerms) (r : EntryRow) → pieces_text (entry_row_pieces (entry_row_from (pair_trees (term_pairs ps)) r)) ≡ pieces_text (entry_row_pieces r) ++ pairs_text false ps
entry_row_text [] r = sym (append-nil _)
entry_row_text (p ∷ ps) r =
    let before = pieces_text (entry_row_pieces r) in
    let inside = placed_text p.1 0 0 in
    let moved : (before ++ (codes ", " ++ (written_key p.0 ++ (codes ": " ++ inside)))) ++ pairs_text false ps
    ≡ before ++ (codes ", " ++ (written_key p.0 ++ (codes ": " ++ (inside ++ pairs_text false ps)))) = simp append_assoc in
    entry_row_text ps (MoreEntries r (printed_key p.0) (tree_at p.1 0 0))
    ∙ ap (λ s. s ++ pairs_text false ps) (pieces_text-append (entry_row_pieces r) _ ∙ ap (λ s. before ++ (codes ", " ++ s)) (entry_text p.0 (tree_at p.1 0 0)))
    ∙ moved

pub map_text : (ps : LineTerms) → placed_text (mapping (term_pairs ps)) 0 0 ≡ codes "{" ++ (pairs_text true ps ++ codes "}")
map_text [] = refl
map_text (p ∷ ps) =
    let inside = placed_text p.1 0 0 in
    let row = entry_row_from (pair_trees (term_pairs ps)) (OneEntry (printed_key p.0) (tree_at p.1 0 0)) in
    let moved : (written_key p.0 ++ (codes ": " ++ inside)) ++ pairs_text false ps ≡ written_key p.0 ++ (codes ": " ++ (inside ++ pairs_text false ps)) = simp append_assoc in
    ap (λ l. 123 ∷ l) (
    pieces_text-append (entry_row_pieces row ++ []) (closing sign.BraceClose)
    ∙ ap (λ l. l ++ codes "}") (
    pieces_text-append (entry_row_pieces row) [] ∙ append-nil _ ∙ entry_row_text ps _ ∙ ap (λ s. s ++ pairs_text false ps) (entry_text p.0 (tree_at p.1 0 0)) ∙ moved
    ))

-- Calls.
argument_row_text : (ts : Terms) (r : ArgumentRow) → pieces_text (argument_row_pieces (argument_row_from ts r)) ≡ pieces_text (argument_row_pieces r) ++ items_text false ts
argument_row_text no_terms r = sym (append-nil _)
argument_row_text (term t ts) r =
    argument_row_text ts (MoreArguments r (Expression (tree_at t 0 0)))
    ∙ ap (λ s. s ++ items_text false ts) (pieces_text-append (argument_row_pieces r) _)
    ∙ append_assoc (pieces_text (argument_row_pieces r)) (codes ", " ++ placed_text t 0 0) (items_text false ts)

pub all_arguments_text : (ts : Terms) → pieces_text (arguments_pieces (arguments_of ts)) ≡ items_text true ts
all_arguments_text no_terms = refl
all_arguments_text (term t ts) =
    pieces_text-append (argument_row_pieces (argument_row_from ts (OneArgument (Expression (tree_at t 0 0))))) [] ∙ append-nil _ ∙ argument_row_text ts (OneArgument (Expression (tree_at t 0 0)))

pub call_text : (key : List ℕ) (ts : Terms) → placed_text (call key ts no_predicate) 0 0 ≡ key ++ (codes "(" ++ (items_text true ts ++ codes ")"))
call_text key ts = ap (λ l. key ++ (codes "(" ++ l)) (pieces_text-append (arguments_pieces (arguments_of ts)) (closing sign.ParenClose) ∙ ap (λ l. l ++ codes ")") (all_arguments_text ts))

-- a predicate stands last, in braces
pub predicate_text : (ts : Terms) (p : TreeProgram) → pieces_text (arguments_pieces (arguments_then (arguments_of ts) p)) ≡ items_text true ts ++ (brace_text ts ++ (pieces_text (program_pieces p) ++ codes "}"))
predicate_text no_terms p = ap (λ l. 123 ∷ l) (pieces_text-append (program_pieces p ++ closing sign.BraceClose) [] ∙ append-nil _ ∙ pieces_text-append (program_pieces p) (closing sign.BraceClose))
predicate_text (term t ts) p =
    let row = argument_row_from ts (OneArgument (Expression (tree_at t 0 0))) in
    let braces = signed sign.Comma ∷ space ∷ signed sign.BraceOpen ∷ (program_pieces p ++ closing sign.BraceClose) in
    pieces_text-append (argument_row_pieces row ++ braces) [] ∙ append-nil _
    ∙ pieces_text-append (argument_row_pieces row) braces
    ∙ (λ i. argument_row_text ts (OneArgument (Expression (tree_at t 0 0))) i ++ (codes ", {" ++ pieces_text-append (program_pieces p) (closing sign.BraceClose) i))

pub predicate_call_text : (key : List ℕ) (ts : Terms) (b : Block)
    → placed_text (call key ts (predicate b)) 0 0 ≡ key ++ (codes "(" ++ (items_text true ts ++ (brace_text ts ++ (program_text b ++ codes "})"))))
predicate_call_text key ts b =
    let program = program_text b in
    let moved : (items_text true ts ++ (brace_text ts ++ (program ++ codes "}"))) ++ codes ")" ≡ items_text true ts ++ (brace_text ts ++ (program ++ codes "})")) = simp append_assoc in
    ap (λ l. key ++ (codes "(" ++ l)) (pieces_text-append (arguments_pieces (arguments_then (arguments_of ts) (block_from b NoLines))) (closing sign.ParenClose) ∙ ap (λ l. l ++ codes ")") (predicate_text ts (block_from b NoLines)) ∙ moved)

-- Programs.
lines_from : (ls : LineTerms) (t : Term) (ms : Lines) → pieces_text (program_pieces (block_from (block_with ls t) ms)) ≡ pieces_text (lines_pieces ms) ++ (lines_text ls ++ placed_text t 0 0)
lines_from [] t ms = pieces_text-append (lines_pieces ms) _
lines_from (l ∷ ls) t ms =
    let before = pieces_text (lines_pieces ms) in
    let inside = placed_text l.1 0 0 in
    let after = lines_text ls ++ placed_text t 0 0 in
    let moved : (before ++ (codes "let " ++ (l.0 ++ (codes " = " ++ (inside ++ codes ";\n"))))) ++ after
    ≡ before ++ ((codes "let " ++ (l.0 ++ (codes " = " ++ (inside ++ (codes ";\n" ++ lines_text ls))))) ++ placed_text t 0 0) = simp append_assoc in
    lines_from ls t (MoreLines ms l.0 (tree_at l.1 0 0))
    ∙ ap (λ s. s ++ after) (pieces_text-append (lines_pieces ms) _ ∙ ap (λ s. before ++ (codes "let " ++ (l.0 ++ (codes " = " ++ s)))) (pieces_text-append (pieces_of (tree_at l.1 0 0)) _))
    ∙ moved

pub block_text : (ls : LineTerms) (t : Term) → program_text (block_with ls t) ≡ lines_text ls ++ placed_text t 0 0
block_text ls t = lines_from ls t NoLines

-- Choices.
choice_else : (e : ElsePart) (c : Tree) (a : TreeProgram) → pieces_text (pieces_of (If c a e)) ≡ codes "if " ++ (pieces_text (pieces_of c) ++ (codes " { " ++ (pieces_text (program_pieces a) ++ (codes " } else " ++ pieces_text (else_pieces e)))))
choice_else e c a =
    ap (λ s. codes "if " ++ s) (pieces_text-append (pieces_of c) _ ∙ ap (λ s. pieces_text (pieces_of c) ++ (codes " { " ++ s)) (pieces_text-append (program_pieces a) _))

pub choice_text : (c : Term) (a b : Block) → placed_text (choice c a b) 0 0 ≡ codes "if " ++ (placed_text c 0 0 ++ (codes " { " ++ (program_text a ++ (codes " } else " ++ else_text b))))
choice_text c a b = choice_else (else_of b) (tree_at c 0 0) (block_from a NoLines)

-- another `if` follows at once
pub else_choice : (c : Term) (a b : Block) → else_text (answers (choice c a b)) ≡ placed_text (choice c a b) 0 0
else_choice c a b = refl

-- what isn't an `if` stands in braces
in_else : (t : Tree) → is_if t ≡ false → pieces_text (else_pieces (else_with t)) ≡ codes "{ " ++ (pieces_text (pieces_of t) ++ codes " }")
in_else (If c a e) h = absurd (false≢true (sym h))
in_else t h = ap (λ s. codes "{ " ++ s) (pieces_text-append (pieces_of t) (space ∷ closing sign.BraceClose))

pub else_answers : (t : Term) → is_choice_term t ≡ false → else_text (answers t) ≡ codes "{ " ++ (program_text (answers t) ++ codes " }")
else_answers t h = in_else (tree_at t 0 0) (if_at t ∙ h)

pub else_lines : (l : List ℕ × Term) (ls : LineTerms) (t : Term) → else_text (block_with (l ∷ ls) t) ≡ codes "{ " ++ (program_text (block_with (l ∷ ls) t) ++ codes " }")
else_lines l ls t = ap (λ s. codes "{ " ++ s) (pieces_text-append (program_pieces (block_from (block_with (l ∷ ls) t) NoLines)) (space ∷ closing sign.BraceClose))

-- Postfix operators.
opened : (optional : Bool) (ps : List Piece) → pieces_text (map written (index_tokens optional) ++ ps) ≡ open_text optional ++ pieces_text ps
opened true ps = refl
opened false ps = refl

pub key_text : (key t : Term) (optional : Bool) (a b : ℕ) → member_word key ≡ None
    → placed_text (postfix (index key optional) t) a b ≡ placed_text t a 13 ++ (open_text optional ++ (placed_text key 0 0 ++ codes "]"))
key_text key t optional a b none =
    ap (λ (o : Option (List ℕ)). pieces_text (pieces_of (index_by o (is_item t) optional (tree_at t a 13) (tree_at key 0 0)))) none
    ∙ pieces_text-append (pieces_of (tree_at t a 13)) _
    ∙ ap (λ s. placed_text t a 13 ++ s) (opened optional _ ∙ ap (λ s. open_text optional ++ s) (pieces_text-append (pieces_of (tree_at key 0 0)) _))

member_word_is : (w : List ℕ) → is_word w ≡ true → member_word (literal (value.String w)) ≡ Some w
unfolding roll-Value denote.Hole.Carrier.roll
member_word_is w h = cond-true _ _ _ h

member_dot : (optional : Bool) (l : Tree) (w : List ℕ) → pieces_text (pieces_of (Member l optional (word_of w))) ≡ pieces_text (pieces_of l) ++ (dot_text optional ++ w)
member_dot true l w = pieces_text-append (pieces_of l) _ ∙ ap (λ s. pieces_text (pieces_of l) ++ (codes "?." ++ s)) (append-nil _ ∙ word_spelled w)
member_dot false l w = pieces_text-append (pieces_of l) _ ∙ ap (λ s. pieces_text (pieces_of l) ++ (codes "." ++ s)) (append-nil _ ∙ word_spelled w)

pub field_text : (w : List ℕ) (t : Term) (a b : ℕ) → is_word w ≡ true → is_item t ≡ true → placed_text (postfix (index (literal (value.String w)) false) t) a b ≡ codes "." ++ w
field_text w t a b word item =
    (λ i. pieces_text (pieces_of (index_by (member_word_is w word i) (item i) false (tree_at t a 13) (tree_at (literal (value.String w)) 0 0))))
    ∙ ap (λ s. codes "." ++ s) (append-nil _ ∙ word_spelled w)

member_by_dot : (item optional : Bool) (l : Tree) (w : List ℕ) → (item && not optional) ≡ false → pieces_text (pieces_of (member_by item optional l (word_of w))) ≡ pieces_text (pieces_of l) ++ (dot_text optional ++ w)
member_by_dot true false l w h = absurd (false≢true (sym h))
member_by_dot true true l w h = member_dot true l w
member_by_dot false optional l w h = member_dot optional l w

pub member_text : (w : List ℕ) (t : Term) (optional : Bool) (a b : ℕ) → is_word w ≡ true → (is_item t && not optional) ≡ false
    → placed_text (postfix (index (literal (value.String w)) optional) t) a b ≡ placed_text t a 13 ++ (dot_text optional ++ w)
member_text w t optional a b word h =
    ap (λ (o : Option (List ℕ)). pieces_text (pieces_of (index_by o (is_item t) optional (tree_at t a 13) (tree_at (literal (value.String w)) 0 0)))) (member_word_is w word)
    ∙ member_by_dot (is_item t) optional (tree_at t a 13) w h

pub slice_text : (x y : Bound) (t : Term) (a b : ℕ)
    → placed_text (postfix (slice x y) t) a b ≡ placed_text t a 13 ++ (codes "[" ++ (bound_text x ++ (colon_text (bound_of x) (bound_of y) ++ (bound_text y ++ codes "]"))))
slice_text x y t a b =
    pieces_text-append (pieces_of (tree_at t a 13)) _
    ∙ ap (λ s. placed_text t a 13 ++ (codes "[" ++ s)) (
    pieces_text-append (bound_pieces (bound_of x)) _
    ∙ ap (λ s. bound_text x ++ s) (pieces_text-append (colon_pieces (bound_of x) (bound_of y)) _ ∙ ap (λ s. colon_text (bound_of x) (bound_of y) ++ s) (pieces_text-append (bound_pieces (bound_of y)) _))
    )

piped_text : (l : Tree) (u : Term) → is_call_term u ≡ true → pieces_text (pieces_of (piped l (tree_at u 0 0))) ≡ pieces_text (pieces_of l) ++ (codes " | " ++ placed_text u 0 0)
piped_text l (call key ts p) h = pieces_text-append (pieces_of l) _
piped_text l u h = absurd (false≢true h)

pub pipe_text : (u t : Term) (a b : ℕ) → is_call_term u ≡ true → nat_lt 2 a ≡ false → placed_text (postfix (pipe u) t) a b ≡ placed_text t a 2 ++ (codes " | " ++ placed_text u 0 0)
pipe_text u t a b is e = bare (nat_lt 2 a) a b (λ c d. piped (tree_at t c 2) (tree_at u 0 0)) e ∙ piped_text (tree_at t a 2) u is

pub ternary_text : (u v t : Term) (a b : ℕ) → postfix_needs_brackets (ternary u v) a b ≡ false
    → placed_text (postfix (ternary u v) t) a b ≡ placed_text t a 1 ++ (codes " ? " ++ (placed_text u 0 0 ++ (codes " : " ++ placed_text v 0 0)))
ternary_text u v t a b e =
    bare (nat_lt 1 a || nat_lt 0 b) a b (λ c d. Ternary (tree_at t c 1) (tree_at u 0 0) (tree_at v 0 0)) e
    ∙ pieces_text-append (pieces_of (tree_at t a 1)) _
    ∙ ap (λ s. placed_text t a 1 ++ (codes " ? " ++ s)) (pieces_text-append (pieces_of (tree_at u 0 0)) _)

pub method_text : (key : List ℕ) (ts : Terms) (t : Term) (a b : ℕ)
    → placed_text (postfix (method key ts) t) a b ≡ placed_text t a 13 ++ (codes "." ++ (key ++ (codes "(" ++ (items_text true ts ++ codes ")"))))
method_text key ts t a b =
    pieces_text-append (pieces_of (tree_at t a 13)) _
    ∙ ap (λ s. placed_text t a 13 ++ (codes "." ++ s)) (λ i. word_spelled key i ++ (codes "(" ++ (pieces_text-append (items_pieces (items_of ts)) (closing sign.ParenClose) ∙ ap (λ l. l ++ codes ")") (all_items_text ts)) i))

-- Names.
name_by : (key : List ℕ) (b : Bool) → is_hash_name key ≡ b → placed_text (name key) 0 0 ≡ key
name_by key true e = ap (λ (t : Tree). pieces_text (pieces_of t)) (cond-true _ _ _ e) ∙ append-nil key
name_by key false e = ap (λ (t : Tree). pieces_text (pieces_of t)) (cond-false _ _ _ e) ∙ append-nil key

pub name_text : (key : List ℕ) → placed_text (name key) 0 0 ≡ key
name_text key = name_by key (is_hash_name key) (λ _. is_hash_name key)

-- six texts in two groups
pub six : (u v w x y z : List ℕ) → (u ++ (v ++ w)) ++ (x ++ (y ++ z)) ≡ u ++ (v ++ (w ++ (x ++ (y ++ z))))
six u v w x y z = simp append_assoc
