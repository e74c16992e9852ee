use Rattle.expr_text.proofs.ListExpanding.{map_literal_expands}
use Rattle.expr_text.proofs.literal_parts.put_literal.Goals as goal

pub returns-in_ok-put_three-in-Map : goal.returns-in_ok-put_three-in-Map
returns-in_ok-put_three-in-Map c =
    map_literal_expands c.args.value.now c.in-Map.map _ _ c.in-Map.is c.keys.ensures.keys c.keys.ensures.distinct c.values.ensures c.in_ok-put_three-in-Map.ensures
