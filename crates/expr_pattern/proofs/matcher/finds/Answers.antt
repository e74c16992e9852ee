use Rattle.std.proofs.Common.{ap, ◌∙◌, arith, is_some}
use Rattle.regex.proofs.Utf8Lemmas.{find_str_of_filled}
use Rattle.regex_meta.specs.Programs.{pattern_of, leftmost}
use Rattle.regex_meta.proofs.LeftmostLemmas.{are_bytes}
use Rattle.regex_meta.proofs.ProgramLemmas.{no_shorter_lem}
use Rattle.expr_pattern.proofs.matcher.finds.Goals as goal

pub returns-then-searcher-gt0-clause-found : goal.returns-then-searcher-gt0-clause-found
returns-then-searcher-gt0-clause-found c =
    let p = c.args.searcher.now.program.now in
    let text = c.args.text.now in
    let positive = c.if-searcher-gt0.true in
    c.is_match.ensures.found
    ∙ ap (λ hay. is_some (leftmost p hay 0)) c.as_bytes-hay.ensures.value
    ∙ ap is_some (find_str_of_filled (pattern_of p) text (are_bytes text c.type_inv.text) c.requires
    (λ i t e. let long = no_shorter_lem p text i t e in omega arith) 0)
