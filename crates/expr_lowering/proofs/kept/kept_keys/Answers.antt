use Rattle.std.proofs.Common.{string_bytes}
use Rattle.expr_lowering.specs.Owned.{own_text}
use Rattle.expr_lowering.proofs.AtPoint.{made_next}
use Rattle.expr_lowering.proofs.kept.kept_keys.Goals as goal

pub loop-key-preserved : goal.loop-key-preserved
loop-key-preserved g c =
    made_next own_text (λ n. string_bytes (g.N.Pointer.held n)) _ _ _ _ _ _ c.loop-key-test.true c.key-item.is c.loop-key.invariant c.in_ok-push.ensures.items c.in_ok-kept_name.ensures
