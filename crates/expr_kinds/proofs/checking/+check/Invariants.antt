use Rattle.std.proofs.Common.{◌≡◌, ℕ, List, ◌++◌, map, drop}
use Rattle.expr_schema.specs.Kinds.{Effect, Fields, Fits, Kind, Lets, no_others}
use Rattle.expr_schema.specs.KindView.{fields_view, kind_view}
use Rattle.expr_schema.specs.SchemaView.{effect_of}
use Rattle.expr_schema.specs.Scopes.{Scope}
use Rattle.expr_tree.specs.Term.{block_with, term_pairs}
use Rattle.expr_tree.specs.TermOf.{line_term, program_term, term_of, terms_of}
use Rattle.expr_kinds.specs.Checks.{Upholds, known_scope, literals_view}
use Rattle.expr_kinds.specs.Effects.{CoversEffect}
use Rattle.expr_kinds.specs.Typed.{TypedAll, TypedBlock, TypedEach, TypedPairs, literals_of}
use Rattle.expr_kinds.proofs.checking.+check.Given as goal

-- what is known after the lines so far holds in a scope from which a kind of the rest is one of the whole
abbrev pub invariant-block_checked-loop-name : goal.invariant-block_checked-loop-name
invariant-block_checked-loop-name l =
    (s : Scope) → Upholds (known_scope l.known) s → (e : Effect) → CoversEffect e (effect_of l.effect)
    → (t : Scope) × Upholds (known_scope l.inner) t
    × ((k : Kind) → TypedBlock e t (block_with (map line_term (drop l.name-index l.program.lines.items)) (term_of l.program.expr)) k → TypedBlock e s (program_term l.program) k)

-- if the other items are of a kind that has the values of the kind so far, all items are
abbrev pub invariant-array_checked-loop-node : goal.invariant-array_checked-loop-node
invariant-array_checked-loop-node l =
    (s : Scope) → Upholds (known_scope l.known) s → (e : Effect) → CoversEffect e (effect_of l.effect) → (k : Kind) → Fits (kind_view l.item) k
    → TypedAll e s (terms_of (map term_of (drop l.node-index l.nodes))) k → TypedAll e s (terms_of (map term_of l.nodes)) k

-- if the other pairs add some fields to those so far, all pairs make these
abbrev pub invariant-map_checked-loop-key : goal.invariant-map_checked-loop-key
invariant-map_checked-loop-key l =
    (s : Scope) → Upholds (known_scope l.known) s → (e : Effect) → CoversEffect e (effect_of l.effect)
    → (before : Fields) × ((n : List ℕ) → Lets before (fields_view l.fields) n)
    × ((fs : Fields) → TypedPairs e s (term_pairs (map line_term (drop l.key-index l.pairs))) before fs → TypedPairs e s (term_pairs (map line_term l.pairs)) no_others fs)

-- If the other arguments are of some kinds, all are of those so far and these. The literals so far are those of the
-- arguments so far.
abbrev pub invariant-arguments_checked-loop-node : goal.invariant-arguments_checked-loop-node
invariant-arguments_checked-loop-node l =
    record {
      literals : literals_view l.literals.items ++ literals_of (terms_of (map term_of (drop l.node-index l.nodes))) ≡ literals_of (terms_of (map term_of l.nodes));
      kinds : (s : Scope) → Upholds (known_scope l.known) s → (e : Effect) → CoversEffect e (effect_of l.effect) → (ks : List Kind)
          → TypedEach e s (terms_of (map term_of (drop l.node-index l.nodes))) ks → TypedEach e s (terms_of (map term_of l.nodes)) (map kind_view l.kinds.items ++ ks);
    }
