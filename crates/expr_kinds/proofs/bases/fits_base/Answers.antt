use Rattle.std.proofs.Common.{sym, ◌∙◌, subst, rules}
use denote.Enum.Bare.{same_true}
use Rattle.expr_schema.specs.Kinds.{HasKind}
use Rattle.expr_kinds.specs.Checks.{base_kind}
use Rattle.expr_kinds.specs.contracts.tables.Base.{the_type}
use Rattle.expr_kinds.proofs.bases.fits_base.Goals as goal

pub returns-in-Any : goal.returns-in-Any
returns-in-Any c = λ t v h. subst (λ b. HasKind (base_kind b) v) (sym c.in-Any.is) tt

pub returns-in-Never : goal.returns-in-Never
returns-in-Never c = λ t v h. absurd (subst (λ b. HasKind (base_kind b) v) c.in-Never.is (c.base_of-base.ensures v h))

pub returns : goal.returns
returns c = λ t v h. subst (λ b. HasKind (base_kind b) v) (same_true the_type (search rules) _ _ (sym c.eq.ensures ∙ t)) (c.base_of-base.ensures v h)
