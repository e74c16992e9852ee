use Rattle.std.proofs.Common.{◌∙◌, Some, refl, lit<}
use Rattle.std.specs.Prelude.{None}
use Rattle.std.proofs.lemmas.Str.Pattern.{strip_prefix_char}
use Rattle.expr_layout.proofs.Tokens.{fraction_none, fraction_some}
use Rattle.expr_layout.proofs.layout.fraction_at.Goals as goal

pub returns-in-Some : goal.returns-in-Some
returns-in-Some c =
    let text = strip_prefix_char 46 c.args.text.now (Some c.in-Some.rest) c.in-Some.ensures.cases (lit< tt) in
    c.run_behind.ensures ∙ fraction_some 46 c.args.text.now c.in-Some.rest.now refl text

pub returns-in-Some-strip_prefix : goal.returns-in-Some-strip_prefix
returns-in-Some-strip_prefix c =
    let text = strip_prefix_char 44 c.args.text.now (Some c.in-Some-strip_prefix.rest) c.in-Some-strip_prefix.ensures.cases (lit< tt) in
    c.run_behind-in-Some-strip_prefix.ensures ∙ fraction_some 44 c.args.text.now c.in-Some-strip_prefix.rest.now refl text

pub returns-in-None : goal.returns-in-None
returns-in-None c =
    let point = strip_prefix_char 46 c.args.text.now None c.in_default.ensures.cases (lit< tt) in
    let comma = strip_prefix_char 44 c.args.text.now None c.in-None.ensures.cases (lit< tt) in
    fraction_none c.args.text.now point comma
