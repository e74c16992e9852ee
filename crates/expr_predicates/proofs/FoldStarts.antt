-- Where a run stands at first.
use Rattle.std.proofs.Common.{◌≡◌, ◌+◌, List, [], Option, Result, Ok, sym, ap, subst, ◌∙◌}
use Rattle.expr_value.specs.declared.value.Value.{Value}
use Rattle.expr_predicates.specs.Calls.{fold_of}
use Rattle.expr_predicates.specs.Accumulators.{Represents, RunRepresents, remaining_items}
use Rattle.expr_predicates.specs.Folds.{Fold, first_place}
use Rattle.expr_functions.specs.declared.functions.HigherOrderCall.{HigherOrderCall}
use Rattle.expr_predicates.specs.declared.run.Accumulator.{Accumulator}
use Rattle.expr_predicates.specs.declared.run.PredicateRun.{PredicateRun}

pub same_ok : {A E : Type 0} (x y : A) → (let r : Result A E = Ok x in r ≡ Ok y) → x ≡ y
same_ok x y e = cc

pub stands_first : (r : PredicateRun) (g : Accumulator) (t : Fold) → r.asked ≡ first_place t + 0 → r.gathered ≡ g → Represents g t [] → RunRepresents r t []
stands_first r g t a e h = record { asked = a; gathered = subst (λ x. Represents x t []) (sym e) h }

pub begun_as : (b : HigherOrderCall) (items : List Value) (more : Option Value) (r : PredicateRun) (b' : HigherOrderCall) (t : Fold) (all : List Value) (g : Accumulator)
    → b ≡ b' → fold_of b' items more ≡ Ok (record { fold = t; items = all }) → remaining_items r ≡ all → r.asked ≡ first_place t + 0 → r.gathered ≡ g → Represents g t []
    → (x : Fold) × (fold_of b items more ≡ Ok (record { fold = x; items = remaining_items r })) × RunRepresents r x []
begun_as b items more r b' t all g is s l a e h =
    (t, ap (λ c. fold_of c items more) is ∙ s ∙ ap (λ xs. Ok (record { fold = t; items = xs })) (sym l), stands_first r g t a e h)
