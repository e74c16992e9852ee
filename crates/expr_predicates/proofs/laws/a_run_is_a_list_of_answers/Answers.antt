use Rattle.std.proofs.Common.{[]}
use Rattle.expr_predicates.proofs.InTurn.{replies_of_run, run_of_replies}
use Rattle.expr_predicates.proofs.laws.a_run_is_a_list_of_answers.Goals as goal

pub returns : goal.returns
returns g c = λ predicate t items answer.
    let asks = g.P.Predicate.may predicate in
    (replies_of_run t asks answer items [], λ r. run_of_replies t asks answer items [] r.0 r.1)
