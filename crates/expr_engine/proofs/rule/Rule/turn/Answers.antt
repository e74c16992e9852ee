use Rattle.std.proofs.Common.{◌∙◌, List, ap, subst, sym}
use Rattle.std.specs.Option.{option_copied}
use Rattle.expr_code.specs.Instructions.{Op}
use Rattle.expr_lowering.specs.OwnedCodes.{owned_blocks}
use Rattle.expr_context.specs.Contexts.{context_of}
use Rattle.expr_engine.specs.Runs.{host_by, host_with_replies, named_by, names_or_none}
use Rattle.expr_engine.proofs.Given.{hosted_in, stops_in, turned_within, unhosted_in}
use Rattle.expr_stops.proofs.Replied.{turned}
use Rattle.expr_stops.specs.Stops.{CodeComes, EndsTurn, StopsWell, UsesWithin, waiting_call_of, replies_of}
use Rattle.expr_context.specs.Context.{ContextView}
use Rattle.expr_meaning.specs.World.{world_of}
use Rattle.expr_tree.specs.TermOf.{program_term}
use Rattle.expr_engine.proofs.rule.Rule.turn.Goals as goal

pub returns-in-Some-clause-ends : goal.returns-in-Some-clause-ends
returns-in-Some-clause-ends c =
    let ctx : ContextView = context_of (names_or_none (option_copied c.args.names.names)) in
    let code : List (List Op) = owned_blocks c.args.self.now.code in
    hosted_in (λ h. EndsTurn c.execute.result (CodeComes c.args.limits (world_of h ctx) code)) (option_copied c.args.host.added) c.in-Some.added.now c.names.result.now (replies_of c.args.stops.now)
    (ap option_copied c.in-Some.is) c.names.ensures c.execute.ensures.ends

pub returns-in-Some-clause-ended : goal.returns-in-Some-clause-ended
returns-in-Some-clause-ended c =
    let ctx : ContextView = context_of (names_or_none (option_copied c.args.names.names)) in
    let code : List (List Op) = owned_blocks c.args.self.now.code in
    let host = host_with_replies (option_copied c.args.host.added) (replies_of c.args.stops.now) in
    let ends : EndsTurn c.execute.result (CodeComes c.args.limits (world_of host ctx) code) = returns-in-Some-clause-ends c in
    turned_within c.args.limits c.execute.result (world_of host ctx) (program_term c.args.self.now.program) code c.args.self.now.lowered ends

pub returns-in-Some-clause-stops : goal.returns-in-Some-clause-stops
returns-in-Some-clause-stops c = λ none.
    stops_in c.execute.result (option_copied c.args.host.added) c.in-Some.added.now c.names.result.now (replies_of c.args.stops.now) (waiting_call_of c.execute.new.self) (ap option_copied c.in-Some.is) c.names.ensures c.execute.ensures.stops

pub returns-in-None-clause-ends : goal.returns-in-None-clause-ends
returns-in-None-clause-ends c =
    let ctx : ContextView = context_of (names_or_none (option_copied c.args.names.names)) in
    let code : List (List Op) = owned_blocks c.args.self.now.code in
    let o = option_copied c.args.host.added in
    unhosted_in (λ h. EndsTurn c.of.result (CodeComes c.args.limits (world_of h ctx) code)) o (replies_of c.args.stops.now) (ap option_copied c.in-None.is)
    (turned c.run-went.result.went c.of.result (CodeComes c.args.limits (world_of (host_by o) ctx) code) c.run-went.ensures.ends c.of.ensures.went)

pub returns-in-None-clause-ended : goal.returns-in-None-clause-ended
returns-in-None-clause-ended c =
    let ctx : ContextView = context_of (names_or_none (option_copied c.args.names.names)) in
    let code : List (List Op) = owned_blocks c.args.self.now.code in
    let host = host_with_replies (option_copied c.args.host.added) (replies_of c.args.stops.now) in
    let ends : EndsTurn c.of.result (CodeComes c.args.limits (world_of host ctx) code) = returns-in-None-clause-ends c in
    turned_within c.args.limits c.of.result (world_of host ctx) (program_term c.args.self.now.program) code c.args.self.now.lowered ends

pub returns-in-None-clause-stops : goal.returns-in-None-clause-stops
returns-in-None-clause-stops c = λ none.
    let named = named_by (option_copied c.args.host.added) in
    let given = replies_of c.args.stops.now in
    subst (λ waits. StopsWell named given c.of.result waits) (sym (c.note_used.ensures.asked ∙ none)) (c.of.ensures.stops named given)

pub returns-in-None-clause-used : goal.returns-in-None-clause-used
returns-in-None-clause-used c = subst (UsesWithin c.args.limits) (sym c.note_used.ensures.used) c.run-went.ensures.used
