use Rattle.std.proofs.Common.{sym}
use Rattle.expr_layout.proofs.Tokens.{heads_characters, heads_found}
use Rattle.expr_layout.proofs.layout.next_token.Goals as goal

pub returns-in-Some : goal.returns-in-Some
returns-in-Some c = heads_found c.args.second c.args.text.now c.in-Some.found.0 c.in-Some.found.1.now (sym c.in-Some.ensures)

pub returns-in-None : goal.returns-in-None
returns-in-None c = heads_characters c.args.second c.args.text.now c.character.result c.in-None.ensures c.character.ensures
