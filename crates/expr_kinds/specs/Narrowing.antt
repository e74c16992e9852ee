-- What a condition tells of the names: what holds where it is true, and what holds where it is false.
use Rattle.std.specs.Prelude.{ℕ, Bool, true, false, not, List, Option, Some, None, option_map, bytes_eq, codes, if◌then◌else◌}
use Rattle.expr_context.specs.Context.{hash}
use Rattle.expr_functions.specs.declared.operator.Operator.TheVariants.{And, Or, Equal, NotEqual, In, NotIn}
use Rattle.expr_functions.specs.declared.operator.UnaryOperator.TheVariants.{Not}
use Rattle.expr_functions.specs.declared.strictness.Strictness.{Strictness}
use Rattle.expr_functions.specs.declared.strictness.Strictness.TheVariants.{Both, EndsAtFalse, EndsAtTrue, Pattern}
use Rattle.expr_tree.specs.Term.{Term, name, literal, unary, operation, postfix, index}
use Rattle.expr_value.specs.Values.{string_of}
use Rattle.expr_value.specs.declared.value.Value.{Value, out-Value}
use Rattle.expr_value.specs.declared.value.Value.TheOpen.{Value-F}
use Rattle.expr_schema.specs.Kinds.{Kind, map, nilable, Fields, no_others, others, field}
use Rattle.expr_schema.specs.Scopes.{Scope}
use Rattle.expr_kinds.specs.Scopes.{bind_kind, at_name, given_at, is_absent}

-- what more is known of the values of a kind, if anything
abbrev pub Refinement : Type 0
Refinement = Kind → Option Kind

-- they aren't nil
abbrev pub non_nil : Refinement
non_nil (nilable k) = Some k
non_nil k = None

-- the field of this name is there, and more is known of it
abbrev pub in_field : List ℕ → Refinement → Refinement
in_field n refine (map fields) = option_map (λ k. map (field n k true fields)) (refine (at_name fields n))
in_field n refine (nilable k) = in_field n refine k
in_field n refine k = None

-- the kind of a name's value, if there is one
abbrev pub present_at : Fields → List ℕ → Option Kind
present_at no_others n = None
present_at (others kind) n = Some kind
present_at (field key kind required rest) n = if bytes_eq key n then Some kind else present_at rest n

-- the map has this name
abbrev pub knowing_name : List ℕ → Refinement
knowing_name n (map fields) = option_map (λ k. map (field n k true fields)) (present_at fields n)
knowing_name n k = None

-- the scope with another kind at a name, if there is one
abbrev pub bind_if : List ℕ → Option Kind → Scope → Scope
bind_if key (Some k) s = bind_kind key k s
bind_if key None s = s

-- the same of the kind of a name that always has a value
abbrev pub refined : Refinement → Option Kind → Option Kind
refined refine (Some k) = refine k
refined refine None = None

-- the same of the part at a literal key, if that is a string
abbrev pub in_part : Option (List ℕ) → Refinement → Refinement
in_part (Some n) refine k = in_field n refine k
in_part None refine k = None

-- the scope where more is known of the value of a name: that of a field of the item at `#`, if the name never has one
abbrev pub refining_name : List ℕ → Bool → Refinement → Scope → Scope
refining_name key false refine s = bind_if key (refined refine (given_at s.names key)) s
refining_name key true refine s = bind_if hash (refined (in_field key refine) (given_at s.names hash)) s

-- the same of a tree: of a name other than `$env`, or of a field of such a value
abbrev pub refining : Term → Refinement → Scope → Scope
refining (name key) refine s = if bytes_eq key (codes "$env") then s else refining_name key (is_absent s.names key) refine s
refining (postfix (index (literal v) optional) t) refine s = refining t (in_part (string_of v) refine) s
refining t refine s = s

-- the scope where a tree differs from this layer of a literal: that tells something only if the literal is nil
abbrev pub unlike_layer : Value-F Value → Term → Scope → Scope
unlike_layer Value-F.Nil t s = refining t non_nil s
unlike_layer l t s = s

-- the scope where the left side differs from a literal on the right
abbrev pub unlike : Term → Term → Scope → Scope
unlike t (literal v) s = unlike_layer (out-Value v) t s
unlike l r s = s

-- the scope where a map has a name, if the literal is one
abbrev pub having_name : Term → Option (List ℕ) → Scope → Scope
having_name t (Some n) s = refining t (knowing_name n) s
having_name t None s = s

-- the scope where a literal on the left is a name of the map on the right
abbrev pub having : Term → Term → Scope → Scope
having (literal v) t s = having_name t (string_of v) s
having l r s = s

-- the scope where a condition has this value: `x != nil`, `x == nil`, `"n" in m`, `and`, `or` and `not` tell something
abbrev pub assuming : Term → Bool → Scope → Scope
assuming (operation NotEqual l r) true s = unlike l r s
assuming (operation Equal l r) false s = unlike l r s
assuming (operation In l r) true s = having l r s
assuming (operation NotIn l r) false s = having l r s
assuming (operation And l r) true s = assuming r true (assuming l true s)
assuming (operation Or l r) false s = assuming r false (assuming l false s)
assuming (unary Not t) b s = assuming t (not b) s
assuming t b s = s

-- the scope of the right side of an operator, which `and` and `or` evaluate only after one value of the left side
abbrev pub after : Strictness → Term → Scope → Scope
after Both l s = s
after EndsAtFalse l s = assuming l true s
after EndsAtTrue l s = assuming l false s
after Pattern l s = s
