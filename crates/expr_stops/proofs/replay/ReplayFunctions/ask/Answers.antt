use Rattle.std.proofs.Common.{◌≡◌, ◌∙◌, Some, slice_get, ap, length, refl, string_bytes, sym, true}
use Rattle.std.proofs.lemmas.Option.{slice_get_read}
use Rattle.expr_stops.specs.Stops.{is_named, is_to}
use Rattle.expr_stops.proofs.Replied.{replied}
use Rattle.expr_stops.proofs.replay.ReplayFunctions.ask.Goals as goal

pub returns-then-is_to : goal.returns-then-is_to
returns-then-is_to g c = λ added.
    let key = string_bytes c.args.call.ident in
    let given = c.args.self.now.given.now in
    let named : is_named c.args.self.now.names.now key ≡ true = ap (is_named c.args.self.now.names.now) (sym c.deref.ensures) ∙ sym c.has.ensures ∙ c.if-not-has.false in
    let (_, same, _, (within, _), _) = c.in-Some.ensures.lookup in
    let stands : slice_get given c.get-place.result ≡ Some c.in-Some.given.now = slice_get_read given (length given) c.get-place.result c.in-Some.given.now refl within same in
    let to : is_to c.in-Some.given.now key c.args.call.args.items ≡ true = sym c.is_to.ensures ∙ c.if-is_to.true in
    replied (g.H.Functions.host c.args.self.now.host.now) (is_named c.args.self.now.names.now) given key c.args.call.args.items c.get-place.result c.in-Some.given.now c.result.result named stands to c.result.ensures
