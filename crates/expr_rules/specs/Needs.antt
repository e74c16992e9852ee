-- What a program asks its host for: the names that it looks up, or the functions that it calls.
use Rattle.std.specs.Prelude.{◌↔◌, ℕ, Bool, not, List, [], ◌∷◌, ◌++◌, bytes_eq, codes, take, if◌then◌else◌, is_some}
use Rattle.std.specs.List.{Contains, filter}
use Rattle.std.specs.List.Sorted.{IsStrictlySortedBy}
use Rattle.std.specs.Cmp.Lexicographic.{slice_cmp}
use Rattle.std.specs.Ordering.{nat_cmp}
use Rattle.expr_functions.specs.Functions.{builtin_named}
use Rattle.expr_tree.specs.Term.{Term, name, literal, list, mapping, range, call, unary, operation, postfix, choice, Postfix, index, slice, coalesce, pipe, ternary, method, Bound, unbounded, bound, Terms, no_terms, term, TermPairs, pairs_end, pair, Predicate, no_predicate, predicate, Block, answers, line}
use Rattle.expr_rules.specs.declared.needs.NeedKind.{NeedKind}
use Rattle.expr_rules.specs.declared.needs.NeedKind.TheVariants.{Names, Functions}

-- a name with `#` is a predicate's own
abbrev pub has_hash : List ℕ → Bool
has_hash key = bytes_eq (take 1 key) (codes "#")

-- what a name asks for, and what a call asks for besides its arguments: the function, unless it is built in
abbrev pub by_name : NeedKind → List ℕ → List (List ℕ)
by_name Names key = if has_hash key then [] else key ∷ []
by_name Functions key = []

abbrev pub by_call : NeedKind → List ℕ → List (List ℕ)
by_call Names key = []
by_call Functions key = if is_some (builtin_named key) then [] else key ∷ []

-- what is asked for behind a line, where its name is the program's own
abbrev pub behind_line : NeedKind → List ℕ → List (List ℕ) → List (List ℕ)
behind_line Names key names = filter (λ n. not (bytes_eq n key)) names
behind_line Functions key names = names

-- all that a tree asks for, in order
abbrev mutual
  pub asked_by : NeedKind → Term → List (List ℕ)
  asked_by a (name key) = by_name a key
  asked_by a (literal v) = []
  asked_by a (list ts) = asked_by_all a ts
  asked_by a (mapping ps) = asked_by_pairs a ps
  asked_by a (range first last) = asked_by a first ++ asked_by a last
  asked_by a (call key ts p) = by_call a key ++ (asked_by_all a ts ++ asked_by_predicate a p)
  asked_by a (unary o t) = asked_by a t
  asked_by a (operation o l r) = asked_by a l ++ asked_by a r
  asked_by a (postfix p t) = asked_by a t ++ asked_by_postfix a p
  asked_by a (choice c first second) = asked_by a c ++ (asked_by_block a first ++ asked_by_block a second)

  pub asked_by_postfix : NeedKind → Postfix → List (List ℕ)
  asked_by_postfix a (index key optional) = asked_by a key
  asked_by_postfix a (slice start stop) = asked_by_bound a start ++ asked_by_bound a stop
  asked_by_postfix a (coalesce t) = asked_by a t
  asked_by_postfix a (pipe t) = asked_by a t
  asked_by_postfix a (ternary first second) = asked_by a first ++ asked_by a second
  asked_by_postfix a (method key ts) = asked_by_all a ts

  pub asked_by_bound : NeedKind → Bound → List (List ℕ)
  asked_by_bound a unbounded = []
  asked_by_bound a (bound t) = asked_by a t

  pub asked_by_all : NeedKind → Terms → List (List ℕ)
  asked_by_all a no_terms = []
  asked_by_all a (term t ts) = asked_by a t ++ asked_by_all a ts

  pub asked_by_pairs : NeedKind → TermPairs → List (List ℕ)
  asked_by_pairs a pairs_end = []
  asked_by_pairs a (pair key t ps) = asked_by a t ++ asked_by_pairs a ps

  pub asked_by_predicate : NeedKind → Predicate → List (List ℕ)
  asked_by_predicate a no_predicate = []
  asked_by_predicate a (predicate b) = asked_by_block a b

  pub asked_by_block : NeedKind → Block → List (List ℕ)
  asked_by_block a (answers t) = asked_by a t
  asked_by_block a (line key t b) = asked_by a t ++ behind_line a key (asked_by_block a b)

-- each of some names once, in byte order
pub record AreDistinct (distinct names : List (List ℕ)) : Type 0 where
  pub ascending : IsStrictlySortedBy (slice_cmp nat_cmp) distinct
  pub exact : (n : List ℕ) → Contains distinct n ↔ Contains names n

-- all that a program asks for, each name once, in byte order
abbrev pub AreAskedBy : NeedKind → List (List ℕ) → Block → Type 0
AreAskedBy a names b = AreDistinct names (asked_by_block a b)
