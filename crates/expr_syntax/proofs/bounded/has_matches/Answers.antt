use Rattle.std.proofs.Common.{codes}
use Rattle.std.proofs.lemmas.Str.Pattern.{contains_text}
use Rattle.expr_syntax.proofs.Matches.{told}
use Rattle.expr_syntax.proofs.bounded.has_matches.Goals as goal

pub returns-then-contains : goal.returns-then-contains
returns-then-contains c =
    let stands = contains_text c.contains-then-contains.result (codes "matches") c.args.code.now c.contains-then-contains.ensures.cases in
    told c.contains-then-contains.result c.args.code.now stands.1
