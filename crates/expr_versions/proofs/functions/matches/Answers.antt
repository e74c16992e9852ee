use Rattle.std.proofs.Common.{◌≡◌, ◌∙◌, Result, Ok, ap, refl, sym}
use Rattle.semver.proofs.EvalViews.{matches_all-views}
use Rattle.semver.specs.declared.error.Error.{Error as Unreadable}
use Rattle.expr_value.specs.declared.value.Value as values
use Rattle.expr_value.specs.declared.value.Value.{Value}
use Rattle.expr_versions.specs.Versions.{on_both}
use Rattle.expr_versions.proofs.functions.matches.Goals as goal

-- what two strings are read as is what the result is of
on_read : {A B : Type 0} (first : Result A Unreadable) (second : Result B Unreadable) (value : A → B → Value) (a : A) (b : B) → first ≡ Ok a → second ≡ Ok b → on_both first second value ≡ Ok (value a b)
on_read first second value a b reads also = rw (reads, also) refl

pub returns : goal.returns
returns c =
    let version = c.in_ok-version.version in
    let held = c.in_ok-requirement.requirement.comparators.items in
    on_read _ _ _ _ _ c.in_ok-version.ensures.ok c.in_ok-requirement.ensures.ok
    ∙ ap (λ met. Ok (values.Bool met)) (sym (c.matches.ensures ∙ matches_all-views held version))
