-- What a predicate may return for some items, whatever it may return for others.
use Rattle.std.specs.Prelude.{◌≡◌, ◌↔◌, List}
use Rattle.std.specs.List.{Contains}
use Rattle.expr_value.specs.Answers.{Answer}
use Rattle.expr_value.specs.declared.value.Value.{Value}
use Rattle.expr_context.specs.Told.{PredicateArgsView}
use Rattle.expr_predicates.specs.Folds.{Fold, ItemAnswer, args_about}

-- after any results, it allows no two results for one of these items
abbrev pub HasOneAnswer : Fold → (PredicateArgsView → Answer → Type 0) → List Value → Type 0
HasOneAnswer t asks items = (rs : List ItemAnswer) (x : Value) → Contains items x → (a b : Answer) → asks (args_about t rs x) a → asks (args_about t rs x) b → a ≡ b

-- after any results, two predicates allow the same results for each of these items
abbrev pub AreAlike : Fold → (PredicateArgsView → Answer → Type 0) → (PredicateArgsView → Answer → Type 0) → List Value → Type 0
AreAlike t asks asks' items = (rs : List ItemAnswer) (x : Value) → Contains items x → (a : Answer) → asks (args_about t rs x) a ↔ asks' (args_about t rs x) a
