use Rattle.expr_tokens.proofs.Sound.{sound}
use Rattle.expr_tokens.proofs.laws.parsing_is_sound.Goals as goal

pub returns : goal.returns
returns c = sound
