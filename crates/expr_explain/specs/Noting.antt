-- What is added to what was told.
use Rattle.std.specs.Prelude.{◌≡◌, ◌++◌, ◌+◌, ◌⊎◌, ℕ, List, [], ◌∷◌}
use Rattle.expr_explain.specs.declared.notes.PartFinding.{PartFinding}
use Rattle.expr_explain.specs.declared.notes.Told.{Told}
use Rattle.expr_tree.specs.Term.{Term}
use Rattle.expr_tree.specs.TermOf.{term_of}

-- this is told of a node that ends where so many nodes have ended
pub record IsNote (told : Told) (tree : Term) (ended : ℕ) (found : PartFinding) : Type 0 where
  pub same : term_of told.node.now ≡ tree
  pub under : told.number + 1 ≡ ended
  pub gives : told.finding ≡ found

-- nothing is added, or one part
abbrev pub AddsOne : List Told → List Told → Term → ℕ → PartFinding → Type 0
AddsOne old new tree ended found = (new ≡ old) ⊎ ((told : Told) × (new ≡ old ++ told ∷ []) × IsNote told tree ended found)
