use Rattle.std.proofs.Common.{bytes_eq, sym, subst}
use Rattle.std.specs.Cmp.Lexicographic.{nat_list_eq_equiv}
use Rattle.std.specs.List.{IsDistinct}
use Rattle.std.specs.Map.{keys_of}
use Rattle.expr_value.proofs.FirstPlaces.{first_places_once, at_first_places, with_last_values}
use Rattle.expr_value.proofs.laws.names_keep_their_first_places.Goals as goal

pub returns-clause-once : goal.returns-clause-once
returns-clause-once c = λ ps. subst (IsDistinct bytes_eq) (sym (at_first_places bytes_eq nat_list_eq_equiv ps)) (first_places_once bytes_eq (keys_of ps))

pub returns-clause-places : goal.returns-clause-places
returns-clause-places c = at_first_places bytes_eq nat_list_eq_equiv

pub returns-clause-values : goal.returns-clause-values
returns-clause-values c = with_last_values bytes_eq nat_list_eq_equiv
