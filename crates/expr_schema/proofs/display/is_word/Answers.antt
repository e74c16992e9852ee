use Rattle.std.proofs.Common.{◌≡◌, ◌==◌, ℕ, false, List, [], ◌∷◌, length, refl, sym, ap, ◌∙◌}
use Rattle.std.specs.List.{list_all}
use Rattle.expr_schema.specs.Texts.{is_bare, is_bare_byte}
use Rattle.expr_schema.proofs.display.is_word.Goals as goal

bare_full : (s : List ℕ) → (length s == 0) ≡ false → list_all is_bare_byte s ≡ is_bare s
bare_full [] e = absurd (cc e)
bare_full (b ∷ bs) e = refl

pub returns-then-not-is_empty : goal.returns-then-not-is_empty
returns-then-not-is_empty c =
    c.all_are_word_bytes.ensures ∙ ap (list_all is_bare_byte) c.as_bytes.ensures.value ∙ bare_full c.args.name.now (sym c.is_empty.ensures ∙ c.if-not-is_empty.true)
