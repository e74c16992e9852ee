use Rattle.std.proofs.Common.{ap, ◌∙◌, List, ℕ}
use Rattle.std.specs.Prelude.{Option}
use Rattle.expr_layout.specs.Layouts.{first_of, named_token, offsets, short_words, words}
use Rattle.expr_layout.specs.declared.token.LayoutToken.{LayoutToken}
use Rattle.expr_layout.proofs.layout.named_token.Goals as goal

pub returns : goal.returns
unfolding Rattle.expr_layout.specs.Layouts.named_token
returns c =
    let text = c.args.text.now in
    let short = c.short_words-short_words.ensures ∙ ap (λ (o : Option (LayoutToken × List ℕ)). first_of short_words text o) c.numbers-numbers.ensures in
    let some = c.offsets-offsets.ensures ∙ ap (λ (o : Option (LayoutToken × List ℕ)). first_of offsets text o) short in
    c.words.ensures ∙ ap (λ (o : Option (LayoutToken × List ℕ)). first_of words text o) some
