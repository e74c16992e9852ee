use Rattle.std.proofs.Common.{sym, subst}
use Rattle.expr_value.specs.Keys.{key_eq, key_eq_equiv}
use Rattle.std.specs.List.{IsDistinct}
use Rattle.std.specs.Map.{keys_of}
use Rattle.expr_value.proofs.FirstPlaces.{first_places_once, at_first_places, with_last_values}
use Rattle.expr_value.proofs.laws.keys_keep_their_first_places.Goals as goal

pub returns-clause-once : goal.returns-clause-once
returns-clause-once c = λ ps. subst (IsDistinct key_eq) (sym (at_first_places key_eq key_eq_equiv ps)) (first_places_once key_eq (keys_of ps))

pub returns-clause-places : goal.returns-clause-places
returns-clause-places c = at_first_places key_eq key_eq_equiv

pub returns-clause-values : goal.returns-clause-values
returns-clause-values c = with_last_values key_eq key_eq_equiv
