-- Which nodes stand in brackets at a place.
use Rattle.std.specs.Prelude.{ℕ, nat_lt, Bool, true, false, ◌||◌, List, codes}
use Rattle.expr_tokens.specs.declared.operator_sign.InfixSign.{InfixSign}
use Rattle.expr_tokens.specs.declared.operator_sign.InfixSign.TheVariants as infixed
use Rattle.expr_tokens.specs.Grammar.{infix_level}
use Rattle.expr_text.specs.Texts.{is_call_term}
use Rattle.expr_text.specs.Trees.{prefix_of, infix_of, infix_catch, prefix_catch}
use Rattle.expr_tree.specs.Term.{Term, name, literal, list, mapping, range, call, unary, operation, postfix, choice, Postfix, index, slice, coalesce, pipe, ternary, method, Bound, unbounded, bound, Block, answers, line}

abbrev pub infix_needs_brackets : InfixSign → (left right : ℕ) → Bool
infix_needs_brackets o left right = nat_lt (infix_level o) left || nat_lt (infix_catch o) right

abbrev pub postfix_needs_brackets : Postfix → (left right : ℕ) → Bool
postfix_needs_brackets (index key optional) left right = false
postfix_needs_brackets (slice start stop) left right = false
postfix_needs_brackets (coalesce t) left right = infix_needs_brackets infixed.Coalesce left right
postfix_needs_brackets (pipe t) left right = nat_lt 2 left
postfix_needs_brackets (ternary first second) left right = nat_lt 1 left || nat_lt 0 right
postfix_needs_brackets (method key ts) left right = false

abbrev pub needs_brackets : Term → (left right : ℕ) → Bool
needs_brackets (name key) left right = false
needs_brackets (literal v) left right = false
needs_brackets (list ts) left right = false
needs_brackets (mapping ps) left right = false
needs_brackets (range first last) left right = infix_needs_brackets infixed.Range left right
needs_brackets (call key ts p) left right = false
needs_brackets (unary o t) left right = nat_lt (prefix_catch (prefix_of o)) right
needs_brackets (operation o l r) left right = infix_needs_brackets (infix_of o) left right
needs_brackets (postfix p t) left right = postfix_needs_brackets p left right
needs_brackets (choice c first second) left right = false

-- a choice
abbrev pub is_choice_term : Term → Bool
is_choice_term (choice c first second) = true
is_choice_term t = false

-- a program that is a choice alone
abbrev pub block_is_if : Block → Bool
block_is_if (answers t) = is_choice_term t
block_is_if (line key t b) = false

-- whether a postfix operator stands between operands, where nothing stands in brackets
abbrev pub joins_behind : Postfix → Bool
joins_behind (index key optional) = false
joins_behind (slice start stop) = false
joins_behind (coalesce t) = true
joins_behind (pipe t) = is_call_term t
joins_behind (ternary first second) = true
joins_behind (method key ts) = false

-- whether an operator stands between operands of a node that stands in no brackets
abbrev pub term_joins : Term → Bool
term_joins (range first last) = true
term_joins (operation o l r) = true
term_joins (postfix p t) = joins_behind p
term_joins t = false

abbrev pub bound_joins : Bound → Bool
bound_joins unbounded = false
bound_joins (bound t) = term_joins t

abbrev pub is_bound : Bound → Bool
is_bound unbounded = false
is_bound (bound t) = true

-- the colon of a slice, by whether it has blanks and which bounds are there
abbrev pub colon_by : (wide first second : Bool) → List ℕ
colon_by false first second = codes ":"
colon_by true true true = codes " : "
colon_by true true false = codes " :"
colon_by true false true = codes ": "
colon_by true false false = codes ":"
