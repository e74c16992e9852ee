use Rattle.std.proofs.Common.{◌≡◌, refl}
use Rattle.expr_value.specs.Keys.{key_cmp, key_eq, key_order, same_key}
use Rattle.expr_value.specs.declared.key.Key.{Key}
use Rattle.expr_value.proofs.laws.keys_are_compared_by_kind.Goals as goal

equal : (k l : Key) → key_eq k l ≡ same_key k l
equal Key.Nil Key.Nil = refl
equal (Key.Bool a) (Key.Bool b) = refl
equal (Key.Integer a) (Key.Integer b) = refl
equal (Key.String s) (Key.String t) = refl
equal (Key.Duration a) (Key.Duration b) = refl
equal (Key.Month a) (Key.Month b) = refl
equal (Key.Weekday a) (Key.Weekday b) = refl
equal (Key.DateTime t) (Key.DateTime u) = refl
equal (Key.Timezone y) (Key.Timezone z) = refl
equal _ _ = refl

order : (k l : Key) → key_cmp k l ≡ key_order k l
order Key.Nil Key.Nil = refl
order (Key.Bool a) (Key.Bool b) = refl
order (Key.Integer a) (Key.Integer b) = refl
order (Key.String s) (Key.String t) = refl
order (Key.Duration a) (Key.Duration b) = refl
order (Key.Month a) (Key.Month b) = refl
order (Key.Weekday a) (Key.Weekday b) = refl
order (Key.DateTime t) (Key.DateTime u) = refl
order (Key.Timezone y) (Key.Timezone z) = refl
order _ _ = refl

pub returns-clause-equal : goal.returns-clause-equal
returns-clause-equal c = equal

pub returns-clause-order : goal.returns-clause-order
returns-clause-order c = order
