use Rattle.std.proofs.Common.{ap, sym, List, ℕ}
use Rattle.std.specs.Prelude.{Option}
use Rattle.expr_layout.specs.Layouts.{first_or, token_and_rest}
use Rattle.expr_layout.proofs.Tokens.{after_none, name_found}
use Rattle.expr_layout.proofs.layout.first_token.Goals as goal

pub returns-in-Some : goal.returns-in-Some
unfolding Rattle.expr_layout.specs.Layouts.first_or
returns-in-Some c =
    sym (ap (λ (o : Option (List ℕ)). first_or c.args.token o (token_and_rest c.args.others)) (name_found c.args.name.now c.args.text.now c.in-Some.rest.now c.in-Some.ensures.cases))

pub returns-in-None : goal.returns-in-None
unfolding Rattle.expr_layout.specs.Layouts.first_or
returns-in-None c = sym (ap (λ (o : Option (List ℕ)). first_or c.args.token o (token_and_rest c.args.others)) (after_none c.args.name.now c.args.text.now c.in-None.ensures.cases))
