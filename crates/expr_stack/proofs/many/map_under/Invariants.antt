use Rattle.std.proofs.Common.{◌≡◌, []}
use Rattle.expr_value.specs.Names.{put_all}
use Rattle.expr_stack.proofs.many.map_under.Given as goal

abbrev pub invariant-loop-key : goal.invariant-loop-key
invariant-loop-key l = l.map ≡ put_all [] l.yielded
