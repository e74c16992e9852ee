use Rattle.std.proofs.Common.{option_map, option_and_then, sym, ap, ◌∙◌}
use Rattle.std.specs.Option.{option_copied}
use Rattle.std.proofs.lemmas.Option.{slice_get-map}
use Rattle.expr_kinds.proofs.known_literals.literal_at.Goals as goal

pub returns-in-Some : goal.returns-in-Some
returns-in-Some c =
    ap (λ o. option_and_then (λ x. x) (option_map option_copied o)) c.in-Some.ensures ∙ ap (option_and_then (λ x. x)) (sym (slice_get-map option_copied c.args.literals.now c.args.place))

pub returns-in-None : goal.returns-in-None
returns-in-None c =
    ap (λ o. option_and_then (λ x. x) (option_map option_copied o)) c.in-None.ensures ∙ ap (option_and_then (λ x. x)) (sym (slice_get-map option_copied c.args.literals.now c.args.place))
