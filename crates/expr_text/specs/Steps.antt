-- How many steps the loop that writes a text takes at most. For proofs that it ends.
use Rattle.std.specs.Prelude.{ℕ, ◌+◌, List, [], ◌∷◌}
use Rattle.expr_value.specs.declared.value.Value.{Value, fold-Value}
use Rattle.expr_value.specs.declared.value.Value.TheOpen.{Value-F}
use Rattle.expr_tree.specs.Term.{Term, name, literal, list, mapping, range, call, unary, operation, postfix, choice, Postfix, index, slice, coalesce, pipe, ternary, method, Bound, unbounded, bound, Terms, no_terms, term, TermPairs, pairs_end, pair, Predicate, no_predicate, predicate, Block, answers, line, LineTerms}

-- those of the members of a literal map, given those of each value
abbrev pub member_steps : List (List ℕ × ℕ) → ℕ
member_steps [] = 5
member_steps (p ∷ ps) = 10 + (p.1 + member_steps ps)

abbrev pub literal_steps_layer : Value-F ℕ → ℕ
literal_steps_layer (Value-F.Map pairs) = 10 + member_steps pairs
literal_steps_layer layer = 10

abbrev pub literal_steps : Value → ℕ
literal_steps = fold-Value ℕ literal_steps_layer

-- those of values of a literal map
abbrev pub values_steps : List Value → ℕ
values_steps [] = 5
values_steps (v ∷ vs) = 10 + (literal_steps v + values_steps vs)

-- Each form has room for its own parts, and for the places of its operands.
abbrev mutual
  pub term_steps : Term → ℕ
  term_steps (name key) = 200
  term_steps (literal v) = 200 + literal_steps v
  term_steps (list ts) = 200 + items_steps ts
  term_steps (mapping ps) = 200 + pairs_steps ps
  term_steps (range first last) = 200 + (term_steps first + term_steps last)
  term_steps (call key ts p) = 200 + (items_steps ts + predicate_steps p)
  term_steps (unary o t) = 200 + term_steps t
  term_steps (operation o l r) = 200 + (term_steps l + term_steps r)
  term_steps (postfix p t) = 200 + (term_steps t + postfix_steps p)
  term_steps (choice c first second) = 200 + (term_steps c + (block_steps first + block_steps second))

  pub postfix_steps : Postfix → ℕ
  postfix_steps (index key optional) = term_steps key
  postfix_steps (slice start stop) = bound_steps start + bound_steps stop
  postfix_steps (coalesce t) = term_steps t
  postfix_steps (pipe t) = term_steps t
  postfix_steps (ternary first second) = term_steps first + term_steps second
  postfix_steps (method key ts) = items_steps ts

  pub bound_steps : Bound → ℕ
  bound_steps unbounded = 5
  bound_steps (bound t) = term_steps t

  pub items_steps : Terms → ℕ
  items_steps no_terms = 5
  items_steps (term t ts) = 5 + (term_steps t + items_steps ts)

  pub pairs_steps : TermPairs → ℕ
  pairs_steps pairs_end = 5
  pairs_steps (pair key t ps) = 10 + (term_steps t + pairs_steps ps)

  pub predicate_steps : Predicate → ℕ
  predicate_steps no_predicate = 5
  predicate_steps (predicate b) = block_steps b

  pub block_steps : Block → ℕ
  block_steps (answers t) = 10 + term_steps t
  block_steps (line key t b) = 10 + (term_steps t + block_steps b)

-- those of lines, or of the pairs of a map literal
abbrev pub lines_steps : LineTerms → ℕ
lines_steps [] = 5
lines_steps (l ∷ ls) = 10 + (term_steps l.1 + lines_steps ls)
