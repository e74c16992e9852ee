use Rattle.std.proofs.Common.{Bor, ℕ, List}
use Rattle.expr_predicates.proofs.Own.{text_found}
use Rattle.expr_predicates.proofs.sorting.is_text_item.Goals as goal

pub returns : goal.returns
returns c = text_found (λ (s : Bor (List ℕ)). s.now) c.args.item.now c.is_some.result c.as_string.result c.is_some.ensures c.as_string.ensures
