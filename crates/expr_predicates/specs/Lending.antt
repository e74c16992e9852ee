-- Whether values and arrays are borrowed.
use Rattle.std.specs.Prelude.{Bool, true, false, List, [], ◌∷◌, Option, None}
use Rattle.expr_arguments.specs.declared.array.Array.{Array}
use Rattle.expr_arguments.specs.declared.array.Array.TheVariants as array
use Rattle.expr_arguments.specs.declared.cow.Cow.{Cow}
use Rattle.expr_arguments.specs.declared.cow.Cow.TheVariants as cow
use Rattle.expr_value.specs.Values.{items_of}
use Rattle.expr_value.specs.declared.value.Value.{Value}

abbrev pub is_borrowed : Cow → Bool
is_borrowed (cow.Owned v) = false
is_borrowed (cow.Borrowed r) = true

abbrev pub is_lent_array : Array → Bool
is_lent_array (array.Owned items) = false
is_lent_array (array.Borrowed r) = true

-- the items of the first argument, if there is one and it is an array
abbrev pub first_items : List Value → Option (List Value)
first_items [] = None
first_items (v ∷ vs) = items_of v
