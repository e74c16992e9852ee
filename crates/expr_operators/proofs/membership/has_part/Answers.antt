use Rattle.std.proofs.lemmas.Bool.Decides.{same_from_decides}
use Rattle.std.proofs.lemmas.Str.Pattern.{contains_text}
use Rattle.expr_operators.specs.Operators.{occurs}
use Rattle.expr_operators.proofs.Parts.{occurs_decides}
use Rattle.expr_operators.proofs.membership.has_part.Goals as goal

pub returns : goal.returns
returns c =
    let part = c.args.part.now in
    let text = c.args.text.now in
    same_from_decides c.contains.result (occurs part text) (contains_text c.contains.result part text c.contains.ensures.cases) (occurs_decides part text)
