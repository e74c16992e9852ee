use Rattle.std.proofs.Common.{[], ◌∷◌, map, take, sym, ap, ◌∙◌, subst}
use Rattle.std.proofs.lemmas.List.{take_more, map-append}
use Rattle.expr_rules.specs.Tasks.{HasSame}
use Rattle.expr_rules.proofs.Distinct.{one_more}
use Rattle.expr_rules.proofs.needs.set_of.Goals as goal

pub loop-name-preserved : goal.loop-name-preserved
loop-name-preserved c =
    let ns = c.args.names.now in
    let i = c.loop-name.name-index in
    subst (HasSame c.add_name.new.set.keys) (sym (ap (map (λ name. name.now)) (take_more ns i _ c.loop-name-test.true) ∙ map-append (λ name. name.now) (take i ns) (_ ∷ [])))
    (one_more c.loop-name.set.keys c.add_name.new.set.keys (map (λ name. name.now) (take i ns)) _ c.loop-name.invariant c.in_ok-add_name.ensures.ordered c.in_ok-add_name.ensures.added)
