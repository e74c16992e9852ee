use Rattle.expr_context.specs.Context.{ContextView}
use Rattle.expr_explain.specs.Layers.{names_inside}
use Rattle.expr_explain.proofs.Tellings.{told_all}
use Rattle.expr_meaning.specs.Host.{Host}
use Rattle.expr_tree.specs.TermOf.{program_term}
use Rattle.expr_explain.proofs.explanation.explain_with.Goals as goal

pub returns-clause-parts : goal.returns-clause-parts
returns-clause-parts g c =
    let host : Host = g.H.Functions.host c.args.host.now in
    let base : ContextView = g.P.ContextProvider.context c.args.provider.now in
    told_all host (names_inside c.outermost_layer-layer.result base) base c.without_parts-notes.result.count (program_term c.args.program.now) c.without_parts-notes.result.parts.items c.block-answer.new.notes.parts.items
    (c.outermost_layer-layer.ensures base) c.without_parts-notes.ensures.count c.without_parts-notes.ensures.parts c.block-answer.ensures.told
