-- What is told of a program.
use Rattle.std.specs.Prelude.{◌≡◌, ℕ, ◌+◌, Ok, Err, List, ◌++◌}
use Rattle.std.specs.List.{All}
use Rattle.expr_context.specs.Context.{ContextView}
use Rattle.expr_error.specs.ErrorKind.{ErrorKind}
use Rattle.expr_explain.specs.Standing.{InBlock, Spot}
use Rattle.expr_explain.specs.declared.notes.PartFinding.{PartFinding}
use Rattle.expr_explain.specs.declared.notes.PartFinding.TheVariants as finding
use Rattle.expr_explain.specs.declared.notes.Told.{Told}
use Rattle.expr_meaning.specs.Allows.{Allows}
use Rattle.expr_meaning.specs.Host.{Host}
use Rattle.expr_meaning.specs.World.{world_of}
use Rattle.expr_tree.specs.Term.{Block}
use Rattle.expr_tree.specs.TermOf.{term_of}
use Rattle.expr_tree.specs.Weight.{weight}
use Rattle.expr_value.specs.Answers.{Answer}
use Rattle.expr_value.specs.declared.value.Value.{Value}

-- what was found is what these results allow: a value, or that there is an error
abbrev pub IsFound : (Answer → Type 0) → PartFinding → Type 0
IsFound allowed (finding.Value v) = allowed (Ok v)
IsFound allowed finding.Failed = (kind : ErrorKind) × allowed (Err kind)

-- This is told of the node at a spot: its number among the nodes of the program, children before their parents, and what
-- its meaning allows there.
pub record IsToldAt (host : Host) (spot : Spot) (told : Told) : Type 0 where
  pub tree : term_of told.node.now ≡ spot.tree
  pub number : told.number + 1 ≡ spot.before + weight spot.tree
  pub found : IsFound (Allows (world_of host spot.names) spot.tree) told.finding

-- this is told of one of these spots
abbrev pub IsToldOf : Host → (Spot → Type 0) → Told → Type 0
IsToldOf host among told = (spot : Spot) × among spot × IsToldAt host spot told

-- this is told of a part that the program evaluates
abbrev pub IsToldOfProgram : Host → ContextView → Block → Told → Type 0
IsToldOfProgram host names b told = IsToldOf host (InBlock host names 0 b) told

-- what was told, and then more, of these spots
pub record TellsOf (host : Host) (among : Spot → Type 0) (old new : List Told) : Type 0 where
  pub added : List Told
  pub new_is : new ≡ old ++ added
  pub of_these : All (IsToldOf host among) added
