-- The names of a program.
use Rattle.std.specs.Prelude.{◌≢◌, ◌↔◌, ℕ, Bool, List, [], ◌∷◌, ◌++◌, bytes_eq, codes, if◌then◌else◌}
use Rattle.std.specs.List.{Contains, list_any}
use Rattle.std.specs.List.Sorted.{IsStrictlySortedBy}
use Rattle.std.specs.Cmp.Lexicographic.{slice_cmp}
use Rattle.std.specs.Ordering.{nat_cmp}
use Rattle.std.specs.BTreeSet.{insert_key}
use Rattle.expr_tree.specs.Term.{Term, name, literal, list, mapping, range, call, unary, operation, postfix, choice, Postfix, index, slice, coalesce, pipe, ternary, method, Bound, unbounded, bound, Terms, no_terms, term, TermPairs, pairs_end, pair, Predicate, no_predicate, predicate, Block, answers, line}

-- the names that are operands, with or without `#`, in order
abbrev mutual
  pub operands : Term → List (List ℕ)
  operands (name key) = key ∷ []
  operands (literal v) = []
  operands (list ts) = all_operands ts
  operands (mapping ps) = pairs_operands ps
  operands (range first last) = operands first ++ operands last
  operands (call key ts p) = all_operands ts ++ predicate_operands p
  operands (unary o t) = operands t
  operands (operation o l r) = operands l ++ operands r
  operands (postfix p t) = operands t ++ postfix_operands p
  operands (choice c first second) = operands c ++ (block_operands first ++ block_operands second)

  pub postfix_operands : Postfix → List (List ℕ)
  postfix_operands (index key optional) = operands key
  postfix_operands (slice start stop) = bound_operands start ++ bound_operands stop
  postfix_operands (coalesce t) = operands t
  postfix_operands (pipe t) = operands t
  postfix_operands (ternary first second) = operands first ++ operands second
  postfix_operands (method key ts) = all_operands ts

  pub bound_operands : Bound → List (List ℕ)
  bound_operands unbounded = []
  bound_operands (bound t) = operands t

  pub all_operands : Terms → List (List ℕ)
  all_operands no_terms = []
  all_operands (term t ts) = operands t ++ all_operands ts

  pub pairs_operands : TermPairs → List (List ℕ)
  pairs_operands pairs_end = []
  pairs_operands (pair key t ps) = operands t ++ pairs_operands ps

  pub predicate_operands : Predicate → List (List ℕ)
  predicate_operands no_predicate = []
  predicate_operands (predicate b) = block_operands b

  pub block_operands : Block → List (List ℕ)
  block_operands (answers t) = operands t
  block_operands (line key t b) = operands t ++ block_operands b

-- the name of the whole context
abbrev pub env : List ℕ
env = codes "$env"

abbrev pub has_env : List (List ℕ) → Bool
has_env names = list_any (bytes_eq env) names

-- the names of a program: each operand but `$env`, once, in byte order
pub record AreNamesOf (names : List (List ℕ)) (b : Block) : Type 0 where
  pub ascending : IsStrictlySortedBy (slice_cmp nat_cmp) names
  pub exact : (n : List ℕ) → Contains names n ↔ (Contains (block_operands b) n × (n ≢ env))

-- adds a name to a sorted list, unless it is `$env`
abbrev pub with_name : List (List ℕ) → List ℕ → List (List ℕ)
with_name names n = if bytes_eq n env then names else insert_key (slice_cmp nat_cmp) names n

-- adds several names
abbrev pub with_names : List (List ℕ) → List (List ℕ) → List (List ℕ)
with_names names [] = names
with_names names (n ∷ ns) = with_names (with_name names n) ns
