use Rattle.std.proofs.Common.{◌≡◌, ◌∙◌, ◌++◌, ◌∷◌, [], None, ap, map, subst, sym}
use Rattle.expr_exchange.specs.Maps.{pair_by_name, text_pairs}
use Rattle.expr_exchange.proofs.InTurn.{no_texts-at}
use Rattle.expr_exchange.proofs.map_pairs.add_to_named.Goals as goal

pub returns-in_ok-push-in-Err : goal.returns-in_ok-push-in-Err
returns-in_ok-push-in-Err c =
    let names = map pair_by_name c.args.names.items in
    let more : c.push-in-Err.new.self.items ≡ names ++ (c.args.key, c.args.value) ∷ [] =
    c.in_ok-push-in-Err.ensures.items ∙ ap (λ pairs. pairs ++ (c.in-Err.other, c.args.value) ∷ []) c.in_ok-pairs-in-Err.ensures.ok ∙ ap (λ key. names ++ (key, c.args.value) ∷ []) c.in-Err.ensures.other in
    record { ok = more; split = subst (λ pairs. text_pairs pairs ≡ None) (sym more) (no_texts-at names c.args.key c.args.value c.in-Err.ensures.none); err = tt }
