use Rattle.std.proofs.Common.{◌≡◌, Err, refl, sym, subst, length, reverse, arith}
use Rattle.std.proofs.lemmas.List.{length-map, length-reverse}
use Rattle.expr_acts.specs.Here.{here}
use Rattle.expr_acts.specs.Texts.{text_of}
use Rattle.expr_code.proofs.Safety.{code_is_safe}
use Rattle.expr_code.specs.InMemory.{op_of}
use Rattle.expr_frames.specs.Ready.{ops_of}
use Rattle.expr_limits.specs.Rooms.{rooms}
use Rattle.expr_lowering.specs.Blocks.{CodeKeeps, blocks_of}
use Rattle.expr_machine.proofs.Noted.{entered_not}
use Rattle.expr_machine.proofs.Within.{first_stops, room_of}
use Rattle.expr_machine.proofs.runs.outcome_in.Goals as goal

pub returns-in-Err-clause-code : goal.returns-in-Err-clause-code
returns-in-Err-clause-code g c =
    let V = g.L.Pointer.held in
    let T = text_of g.N.Pointer.held in
    let limits = c.args.limits.now in
    let code = c.args.code.now in
    let long : c.len.result ≡ length (ops_of (blocks_of V T code) 0) = omega (arith, c.len.ensures, length-map (reverse code.first.items) (op_of V T), length-reverse code.first.items, code.first.ok.0) in
    first_stops (here g.H.Functions.host g.P.ContextProvider.context c.args.world.now) (blocks_of V T code) (code_is_safe V T code.first code.later code.safe) (CodeKeeps V g.K.Pointer.held code) limits c.in-Err.limit
    (subst (λ n. rooms.enters n (room_of limits) (Err c.in-Err.limit)) long c.in-Err.ensures.exceeded)

pub returns-in-Err-clause-first : goal.returns-in-Err-clause-first
returns-in-Err-clause-first g c = λ limit over. (c.in-Err.limit, refl)

pub returns-clause-first : goal.returns-clause-first
returns-clause-first g c = λ limit over.
    let V = g.L.Pointer.held in
    let T = text_of g.N.Pointer.held in
    let limits = c.args.limits.now in
    let code = c.args.code.now in
    let long : c.len.result ≡ length (ops_of (blocks_of V T code) 0) = omega (arith, c.len.ensures, length-map (reverse code.first.items) (op_of V T), length-reverse code.first.items, code.first.ok.0) in
    absurd (entered_not _ _ _ _ _ limit c.in-Ok.ensures.left (subst (λ n. rooms.enters n (room_of limits) (Err limit)) (sym long) over))
