-- The code of each program, as a function of it.
use Rattle.std.specs.Prelude.{ℕ, suc, ◌+◌, true, false, List, [], ◌∷◌, ◌++◌, length, map}
use Rattle.expr_functions.specs.Strictness.{operator_strictness}
use Rattle.expr_functions.specs.declared.strictness.Strictness.{Strictness}
use Rattle.expr_functions.specs.declared.strictness.Strictness.TheVariants.{EndsAtFalse, EndsAtTrue}
use Rattle.expr_tree.specs.Term.{Term, name, literal, list, mapping, range, call, unary, operation, postfix, choice, Postfix, index, slice, coalesce, pipe, ternary, method, Bound, unbounded, bound, Terms, no_terms, term, TermPairs, pairs_end, pair, Predicate, no_predicate, predicate, Block, answers, line}
use Rattle.expr_functions.specs.declared.operator.Operator.{Operator}
use Rattle.expr_code.specs.CallBinds.{binds_named, bound_names}
use Rattle.expr_code.specs.Codes.{SlotNames, Programs, count_terms, keys_of}
use Rattle.expr_code.specs.Instructions.{Op, push, store, act, asks, refuse, jump, jump_if_false, and_then, or_else, unless_nil, operate, prefix, collect, gather, span, pick, cut, invoke, calls, check_bool, check_integer}
use Rattle.expr_code.specs.Slots.{name_op}

-- the names in the slots of a call's predicate
abbrev pub inner : SlotNames → List ℕ → SlotNames
inner scope key = scope ++ bound_names (binds_named key)

-- the predicates in a node, each before those inside it
abbrev mutual
  pub predicate_programs : SlotNames → Term → Programs
  predicate_programs scope (name key) = []
  predicate_programs scope (literal v) = []
  predicate_programs scope (list ts) = all_predicate_programs scope ts
  predicate_programs scope (mapping ps) = pairs_predicate_programs scope ps
  predicate_programs scope (range l r) = predicate_programs scope l ++ predicate_programs scope r
  predicate_programs scope (call key ts p) = all_predicate_programs scope ts ++ call_predicate_programs scope key p
  predicate_programs scope (unary o t) = predicate_programs scope t
  predicate_programs scope (operation o l r) = predicate_programs scope l ++ predicate_programs scope r
  predicate_programs scope (postfix p t) = predicate_programs scope t ++ postfix_predicate_programs scope p
  predicate_programs scope (choice t first second) = predicate_programs scope t ++ (block_predicate_programs scope first ++ block_predicate_programs scope second)

  pub postfix_predicate_programs : SlotNames → Postfix → Programs
  postfix_predicate_programs scope (index key optional) = predicate_programs scope key
  postfix_predicate_programs scope (slice start stop) = bound_predicate_programs scope start ++ bound_predicate_programs scope stop
  postfix_predicate_programs scope (coalesce t) = predicate_programs scope t
  postfix_predicate_programs scope (pipe t) = piped_predicate_programs scope t
  postfix_predicate_programs scope (ternary first second) = predicate_programs scope first ++ predicate_programs scope second
  postfix_predicate_programs scope (method key ts) = all_predicate_programs scope ts

  pub bound_predicate_programs : SlotNames → Bound → Programs
  bound_predicate_programs scope unbounded = []
  bound_predicate_programs scope (bound t) = predicate_programs scope t

  -- a pipe into anything but a call has no predicate
  pub piped_predicate_programs : SlotNames → Term → Programs
  piped_predicate_programs scope (call key ts p) = all_predicate_programs scope ts ++ call_predicate_programs scope key p
  piped_predicate_programs scope t = []

  pub all_predicate_programs : SlotNames → Terms → Programs
  all_predicate_programs scope no_terms = []
  all_predicate_programs scope (term t ts) = predicate_programs scope t ++ all_predicate_programs scope ts

  pub pairs_predicate_programs : SlotNames → TermPairs → Programs
  pairs_predicate_programs scope pairs_end = []
  pairs_predicate_programs scope (pair key t ps) = predicate_programs scope t ++ pairs_predicate_programs scope ps

  pub call_predicate_programs : SlotNames → List ℕ → Predicate → Programs
  call_predicate_programs scope key no_predicate = []
  call_predicate_programs scope key (predicate b) = (inner scope key, b) ∷ block_predicate_programs (inner scope key) b

  pub block_predicate_programs : SlotNames → Block → Programs
  block_predicate_programs scope (answers t) = predicate_programs scope t
  block_predicate_programs scope (line key t b) = predicate_programs scope t ++ block_predicate_programs (scope ++ key ∷ []) b

-- the instruction of a call whose predicate is the program of this number
abbrev pub call_op : ℕ → SlotNames → List ℕ → ℕ → Predicate → Op
call_op k scope key n no_predicate = act (calls key n)
call_op k scope key n (predicate b) = asks key n k (length scope) (binds_named key)

abbrev pub operation_code : Strictness → Operator → List Op → List Op → List Op
operation_code EndsAtFalse o c d = c ++ and_then (length d + 1) ∷ (d ++ act check_bool ∷ [])
operation_code EndsAtTrue o c d = c ++ or_else (length d + 1) ∷ (d ++ act check_bool ∷ [])
operation_code sides o c d = c ++ (d ++ act (operate o) ∷ [])

-- the instructions of the bounds of a slice that are present, and the slice between them
abbrev pub sliced_ops : Bound → Bound → List Op → List Op → List Op
sliced_ops unbounded unbounded c d = act (cut false false) ∷ []
sliced_ops (bound t) unbounded c d = c ++ act (cut true false) ∷ []
sliced_ops unbounded (bound u) c d = d ++ act (cut false true) ∷ []
sliced_ops (bound t) (bound u) c d = c ++ act check_integer ∷ (d ++ act (cut true true) ∷ [])

-- instructions, where the predicates are numbered from this one on
abbrev mutual
  pub code : ℕ → SlotNames → Term → List Op
  code k scope (name key) = name_op scope key ∷ []
  code k scope (literal v) = push v ∷ []
  code k scope (list ts) = all_code k scope ts ++ act (collect (count_terms ts)) ∷ []
  code k scope (mapping ps) = pairs_code k scope ps ++ act (gather (keys_of ps)) ∷ []
  code k scope (range l r) = code k scope l ++ (code (k + length (predicate_programs scope l)) scope r ++ act span ∷ [])
  code k scope (call key ts p) = all_code k scope ts ++ call_op (k + length (all_predicate_programs scope ts)) scope key (count_terms ts) p ∷ []
  code k scope (unary o t) = code k scope t ++ act (prefix o) ∷ []
  code k scope (operation o l r) = operation_code (operator_strictness o) o (code k scope l) (code (k + length (predicate_programs scope l)) scope r)
  code k scope (postfix p t) = code k scope t ++ postfix_code (k + length (predicate_programs scope t)) scope p
  code k scope (choice t first second) =
      let one = block_code (k + length (predicate_programs scope t)) scope first in
      let two = block_code (k + length (predicate_programs scope t) + length (block_predicate_programs scope first)) scope second in
      code k scope t ++ jump_if_false (length one + 1) ∷ (one ++ jump (length two) ∷ two)

  pub postfix_code : ℕ → SlotNames → Postfix → List Op
  postfix_code k scope (index key optional) = code k scope key ++ act (pick optional) ∷ []
  postfix_code k scope (slice start stop) = sliced_ops start stop (bound_code k scope start) (bound_code (k + length (bound_predicate_programs scope start)) scope stop)
  postfix_code k scope (coalesce t) = unless_nil (length (code k scope t)) ∷ code k scope t
  postfix_code k scope (pipe t) = piped_code k scope t
  postfix_code k scope (ternary first second) =
      let one = code k scope first in
      let two = code (k + length (predicate_programs scope first)) scope second in
      jump_if_false (length one + 1) ∷ (one ++ jump (length two) ∷ two)
  postfix_code k scope (method key ts) = all_code k scope ts ++ act (invoke key (count_terms ts)) ∷ []

  pub bound_code : ℕ → SlotNames → Bound → List Op
  bound_code k scope unbounded = []
  bound_code k scope (bound t) = code k scope t

  pub piped_code : ℕ → SlotNames → Term → List Op
  piped_code k scope (call key ts p) = all_code k scope ts ++ call_op (k + length (all_predicate_programs scope ts)) scope key (suc (count_terms ts)) p ∷ []
  piped_code k scope t = refuse ∷ []

  pub all_code : ℕ → SlotNames → Terms → List Op
  all_code k scope no_terms = []
  all_code k scope (term t ts) = code k scope t ++ all_code (k + length (predicate_programs scope t)) scope ts

  pub pairs_code : ℕ → SlotNames → TermPairs → List Op
  pairs_code k scope pairs_end = []
  pairs_code k scope (pair key t ps) = code k scope t ++ pairs_code (k + length (predicate_programs scope t)) scope ps

  pub block_code : ℕ → SlotNames → Block → List Op
  block_code k scope (answers t) = code k scope t
  block_code k scope (line key t b) = code k scope t ++ store (length scope) ∷ block_code (k + length (predicate_programs scope t)) (scope ++ key ∷ []) b

-- the code of a program: its own block, and the blocks of its predicates, each before those inside it
abbrev pub code_of_block : Block → List (List Op)
code_of_block b = map (λ p. block_code 0 p.0 p.1) (([], b) ∷ block_predicate_programs [] b)
