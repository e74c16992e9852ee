use Rattle.expr_encoding.proofs.TextsBack.{text_back}
use Rattle.expr_encoding.proofs.laws.base64_is_read_back.Goals as goal

pub returns : goal.returns
returns c = text_back
