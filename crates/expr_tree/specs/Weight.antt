-- How many nodes a tree has.
use Rattle.std.specs.Prelude.{ℕ, ◌+◌, [], ◌∷◌}
use Rattle.expr_tree.specs.Term.{Term, name, literal, list, mapping, range, call, unary, operation, postfix, choice, Postfix, index, slice, coalesce, pipe, ternary, method, Bound, unbounded, bound, Terms, no_terms, term, TermPairs, pairs_end, pair, Predicate, no_predicate, predicate, Block, answers, line, LineTerms}

abbrev mutual
  pub weight : Term → ℕ
  weight (name key) = 1
  weight (literal v) = 1
  weight (list ts) = 1 + terms_weight ts
  weight (mapping ps) = 1 + pairs_weight ps
  weight (range first last) = 1 + (weight first + weight last)
  weight (call key ts p) = 1 + (terms_weight ts + predicate_weight p)
  weight (unary o t) = 1 + weight t
  weight (operation o l r) = 1 + (weight l + weight r)
  weight (postfix p t) = 1 + (weight t + postfix_weight p)
  weight (choice c first second) = 1 + (weight c + (block_weight first + block_weight second))

  pub postfix_weight : Postfix → ℕ
  postfix_weight (index key optional) = weight key
  postfix_weight (slice start stop) = bound_weight start + bound_weight stop
  postfix_weight (coalesce t) = weight t
  postfix_weight (pipe t) = weight t
  postfix_weight (ternary first second) = weight first + weight second
  postfix_weight (method key ts) = terms_weight ts

  pub bound_weight : Bound → ℕ
  bound_weight unbounded = 0
  bound_weight (bound t) = weight t

  pub terms_weight : Terms → ℕ
  terms_weight no_terms = 0
  terms_weight (term t ts) = weight t + terms_weight ts

  pub pairs_weight : TermPairs → ℕ
  pairs_weight pairs_end = 0
  pairs_weight (pair key t ps) = weight t + pairs_weight ps

  pub predicate_weight : Predicate → ℕ
  predicate_weight no_predicate = 0
  predicate_weight (predicate b) = block_weight b

  pub block_weight : Block → ℕ
  block_weight (answers t) = weight t
  block_weight (line key t b) = weight t + block_weight b

-- those of the values of lines
abbrev pub lines_weight : LineTerms → ℕ
lines_weight [] = 0
lines_weight (l ∷ ls) = weight l.1 + lines_weight ls
