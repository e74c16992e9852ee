use Rattle.expr_time.proofs.Instants.{reads_alone, reads_back}
use Rattle.expr_time.proofs.laws.printed_moments_are_read.Goals as goal

pub returns-clause-by_layout : goal.returns-clause-by_layout
returns-clause-by_layout c = λ zone text answer. reads_back c.args.moment.now c.civil.result c.civil.ensures zone text answer

pub returns-clause-alone : goal.returns-clause-alone
returns-clause-alone c = λ zone text answer. reads_alone c.args.moment.now c.civil.result c.civil.ensures zone text answer
