use Rattle.expr_tokens.proofs.Lexing.{one_reading}
use Rattle.expr_tokens.proofs.laws.one_reading.Goals as goal

pub returns : goal.returns
returns c = one_reading
