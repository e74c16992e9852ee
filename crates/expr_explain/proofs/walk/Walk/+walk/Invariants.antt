use Rattle.std.proofs.Common.{◌≡◌, ◌+◌, ◌*◌, drop, map}
use Rattle.expr_context.specs.Context.{ContextView}
use Rattle.expr_explain.specs.Layers.{names_inside}
use Rattle.expr_explain.specs.Standing.{InBlock, Spot}
use Rattle.expr_explain.specs.Telling.{TellsOf}
use Rattle.expr_meaning.specs.Allows.{AllowsBlock}
use Rattle.expr_meaning.specs.Host.{Host}
use Rattle.expr_meaning.specs.World.{world_of}
use Rattle.expr_tree.specs.Term.{Block}
use Rattle.expr_tree.specs.TermOf.{block_of, program_term, term_of}
use Rattle.expr_tree.specs.Weight.{block_weight, weight}
use Rattle.expr_value.specs.Answers.{Answer}
use Rattle.expr_explain.proofs.walk.Walk.+walk.Given as goal

abbrev pub invariant-block-loop-name : goal.invariant-block-loop-name
invariant-block-loop-name g l =
    let host : Host = g.H.Functions.host l.self.host.now in
    let base : ContextView = g.P.ContextProvider.context l.self.provider.now in
    let whole : Block = program_term l.program in
    let rest : Block = block_of (map (λ p. (p.0, term_of p.1)) (drop l.name-index l.program.lines.items)) (term_of l.program.expr) in
    record {
      answers : (answer : Answer) → AllowsBlock (world_of host (names_inside l.inner base)) rest answer → AllowsBlock (world_of host (names_inside l.layer base)) whole answer;
      counts : l.notes.count + block_weight rest ≡ l.fn.notes.count + block_weight whole;
      spots : (spot : Spot) → InBlock host (names_inside l.inner base) l.notes.count rest spot → InBlock host (names_inside l.layer base) l.fn.notes.count whole spot;
      told : TellsOf host (InBlock host (names_inside l.layer base) l.fn.notes.count whole) l.fn.notes.parts.items l.notes.parts.items;
    }

-- A helper comes before what it evaluates: of the same node, its helpers, the visit, and what is inside of it.
abbrev pub decreases-visit : goal.decreases-visit
decreases-visit g l = 4 * weight (term_of l.node.now) + 1

abbrev pub decreases-look_into : goal.decreases-look_into
decreases-look_into g l = 4 * weight (term_of l.node.now)

abbrev pub decreases-right_side : goal.decreases-right_side
decreases-right_side g l = 4 * weight (term_of l.right.now) + 2

abbrev pub decreases-selected_program : goal.decreases-selected_program
decreases-selected_program g l = 4 * (block_weight (program_term l.consequent.now) + block_weight (program_term l.alternative.now)) + 3

abbrev pub decreases-block : goal.decreases-block
decreases-block g l = 4 * block_weight (program_term l.program.now) + 2
