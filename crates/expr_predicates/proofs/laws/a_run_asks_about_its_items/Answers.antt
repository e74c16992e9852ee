use Rattle.std.proofs.Common.{[]}
use Rattle.expr_predicates.proofs.Answered.{FoldMayReturn-carried}
use Rattle.expr_predicates.proofs.laws.a_run_asks_about_its_items.Goals as goal

pub returns : goal.returns
returns g c = λ one other t items answer alike.
    let asks = g.P.Predicate.may one in
    let asks' = g.Q.Predicate.may other in (
      FoldMayReturn-carried t asks asks' items [] (λ rs x i a. (alike rs x i a).0) answer,
      FoldMayReturn-carried t asks' asks items [] (λ rs x i a. (alike rs x i a).1) answer,
    )
