use Rattle.std.proofs.lemmas.Str.Pattern.{ends_text}
use Rattle.expr_error.proofs.ends.has_back.Goals as goal

pub returns : goal.returns
returns c = ends_text _ c.args.back.now c.args.text.now c.ends_with.ensures.cases
