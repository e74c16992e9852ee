-- The parts that a program evaluates, and where each of them stands.
use Rattle.std.specs.Prelude.{◌≡◌, ℕ, ◌+◌, true, false, List, ◌⊎◌, Ok}
use Rattle.expr_context.specs.Context.{ContextView, override}
use Rattle.expr_explain.specs.Choosing.{GoesRight}
use Rattle.expr_functions.specs.declared.operator.Operator.{Operator}
use Rattle.expr_meaning.specs.Allows.{Allows}
use Rattle.expr_meaning.specs.Host.{Host}
use Rattle.expr_meaning.specs.World.{World, world_of}
use Rattle.expr_tree.specs.Term.{Term, name, literal, list, mapping, range, call, unary, operation, postfix, choice, Postfix, index, slice, coalesce, pipe, ternary, method, Block, answers, line}
use Rattle.expr_tree.specs.Weight.{weight, block_weight}
use Rattle.expr_value.specs.declared.value.Value as value
use Rattle.expr_value.specs.declared.value.Value.{Value}

-- A part that is evaluated, and where it stands: what names stand for there, and how many nodes of the program come
-- before the part's own, children before their parents.
pub record Spot : Type 0 where
  pub names : ContextView
  pub before : ℕ
  pub tree : Term

abbrev pub spot_at : ContextView → ℕ → Term → Spot
spot_at names n t = record { names = names; before = n; tree = t }

abbrev mutual
  -- The spot is inside this tree, which stands here. The right side of an operator is evaluated if the left one
  -- doesn't decide.
  pub InParts : Host → ContextView → ℕ → Term → Spot → Type 0
  InParts host names n (unary o t) spot = (spot ≡ spot_at names n t) ⊎ InParts host names n t spot
  InParts host names n (operation op l r) spot =
      ((spot ≡ spot_at names n l) ⊎ InParts host names n l spot)
      ⊎ ((v : Value) × Allows (world_of host names) l (Ok v) × GoesRight op v × ((spot ≡ spot_at names (n + weight l) r) ⊎ InParts host names (n + weight l) r spot))
  InParts host names n (postfix p t) spot =
      ((spot ≡ spot_at names n t) ⊎ InParts host names n t spot)
      ⊎ ((v : Value) × Allows (world_of host names) t (Ok v) × InPostfix host names (n + weight t) p v spot)
  InParts host names n (choice c first second) spot =
      ((spot ≡ spot_at names n c) ⊎ InParts host names n c spot)
      ⊎ ((Allows (world_of host names) c (Ok (value.Bool true)) × InBlock host names (n + weight c) first spot)
      ⊎ (Allows (world_of host names) c (Ok (value.Bool false)) × InBlock host names (n + weight c + block_weight first) second spot))
  InParts host names n t spot = ⊥

  -- The spot is in what comes after an operand of this value: the side that a condition selects, or what replaces nil.
  pub InPostfix : Host → ContextView → ℕ → Postfix → Value → Spot → Type 0
  InPostfix host names n (coalesce t) v spot = (v ≡ value.Nil) × ((spot ≡ spot_at names n t) ⊎ InParts host names n t spot)
  InPostfix host names n (ternary first second) v spot =
      ((v ≡ value.Bool true) × ((spot ≡ spot_at names n first) ⊎ InParts host names n first spot))
      ⊎ ((v ≡ value.Bool false) × ((spot ≡ spot_at names (n + weight first) second) ⊎ InParts host names (n + weight first) second spot))
  InPostfix host names n p v spot = ⊥

  -- The spot is the value of a line, or the expression after the lines, or inside of it. Each line binds its name for
  -- what follows.
  pub InBlock : Host → ContextView → ℕ → Block → Spot → Type 0
  InBlock host names n (answers t) spot = (spot ≡ spot_at names n t) ⊎ InParts host names n t spot
  InBlock host names n (line key t b) spot =
      ((spot ≡ spot_at names n t) ⊎ InParts host names n t spot)
      ⊎ ((v : Value) × Allows (world_of host names) t (Ok v) × InBlock host (override names key v) (n + weight t) b spot)

-- the spot is this tree, or inside of it
abbrev pub InTree : Host → ContextView → ℕ → Term → Spot → Type 0
InTree host names n t spot = (spot ≡ spot_at names n t) ⊎ InParts host names n t spot

-- the right side of an operator, with this value on the left
abbrev pub InRight : Host → Operator → Value → ContextView → ℕ → Term → Spot → Type 0
InRight host op v names n t spot = GoesRight op v × InTree host names n t spot

-- the program that a condition of this value selects
abbrev pub InBranches : Host → Value → ContextView → ℕ → Block → Block → Spot → Type 0
InBranches host v names n first second spot =
    ((v ≡ value.Bool true) × InBlock host names n first spot) ⊎ ((v ≡ value.Bool false) × InBlock host names (n + block_weight first) second spot)
