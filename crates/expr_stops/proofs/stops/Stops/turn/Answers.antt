use Rattle.std.proofs.Common.{◌≡◌, ◌∙◌, ap, length, refl, slice_get, sym, Some}
use Rattle.std.proofs.lemmas.Option.{slice_get_read}
use Rattle.expr_stops.specs.Stops.{is_named}
use Rattle.expr_stops.proofs.stops.Stops.turn.Goals as goal

pub returns-in-Some-get-clause-stops : goal.returns-in-Some-get-clause-stops
returns-in-Some-get-clause-stops c =
    let given = c.deref-2.result.now in
    let one = c.in-Some-get.given.now in
    let place = c.in-Some.stop.place in
    let (_, same, _, (within, _), _) = c.in-Some-get.ensures.lookup in
    let there : slice_get given place ≡ Some one = slice_get_read given (length given) place one refl within same in (
      refl,
      record {
        is_named = ap (is_named c.args.names.now) (sym c.deref.ensures) ∙ sym c.has.ensures ∙ c.if-not-has.false;
        one = one;
        stands = ap (λ xs. slice_get xs place) (sym c.deref-2.ensures.value) ∙ there;
        other = sym c.is_to.ensures ∙ c.if-not-is_to.true;
      },
    )
