use Rattle.std.proofs.Common.{◌≡◌, ℕ, Bool, true, false, cond, List, Some, None, option_map, bytes_eq, codes, refl, ap, ◌∙◌}
use Rattle.expr_context.specs.Context.{hash}
use Rattle.expr_tree.specs.Term.{name, literal, postfix, index}
use Rattle.expr_value.specs.declared.value.Value as value
use Rattle.expr_value.specs.declared.value.Value.{Value, out-Value}
use Rattle.expr_schema.specs.Kinds.{Kind, map, Fields, no_others, others, field}
use Rattle.expr_kinds.specs.Narrowing.{Refinement, bind_if, having_name, in_field, in_part, knowing_name, non_nil, refined, refining, refining_name, unlike_layer}
use Rattle.expr_schema.specs.Scopes.{Scope}
use Rattle.expr_kinds.specs.Scopes.{given_at, is_absent}
use Rattle.expr_kinds.proofs.Found.{read-string}
use Rattle.expr_kinds.proofs.Layers.{out-nil}
use Rattle.expr_kinds.proofs.laws.conditions_narrow_fields.Goals as goal

-- a name that always has a value isn't one that never has
given-present : (fs : Fields) (n : List ℕ) (k : Kind) → given_at fs n ≡ Some k → is_absent fs n ≡ false
given-present no_others n k q = absurd (cc q)
given-present (others kind) n k q = refl
given-present (field key kind required rest) n k q = here (given-present rest n k) (bytes_eq key n) q
  where
    here : (given_at rest n ≡ Some k → is_absent rest n ≡ false) → (b : Bool) → cond b (cond required (Some kind) None) (given_at rest n) ≡ Some k → cond b false (is_absent rest n) ≡ false
    here below true h = refl
    here below false h = below h

-- the scope where more is known of a name that always has a value
module _ (s : Scope) (x : List ℕ) (a : Kind) (refine : Refinement) (other : bytes_eq x (codes "$env") ≡ false) (at : given_at s.names x ≡ Some a) where
  of-name : refining (name x) refine s ≡ bind_if x (refine a) s
  of-name =
      ap (λ b. cond b s (refining_name x (is_absent s.names x) refine s)) other ∙ ap (λ b. refining_name x b refine s) (given-present s.names x a at) ∙ ap (λ o. bind_if x (refined refine o) s) at

pub returns-clause-item : goal.returns-clause-item
returns-clause-item c = λ s fs n k at is.
    let path = postfix (index (literal (value.String n)) false) (name hash) in
    ap (λ l. unlike_layer l path s) out-nil ∙ ap (λ o. refining (name hash) (in_part o non_nil) s) (read-string n) ∙ of-name s hash (map fs) (in_field n non_nil) refl at
    ∙ ap (λ j. bind_if hash (option_map (λ i. map (field n i true fs)) (non_nil j)) s) is

pub returns-clause-bare : goal.returns-clause-bare
returns-clause-bare c = λ s fs n k other absent at is.
    ap (λ l. unlike_layer l (name n) s) out-nil ∙ ap (λ b. cond b s (refining_name n (is_absent s.names n) non_nil s)) other ∙ ap (λ b. refining_name n b non_nil s) absent
    ∙ ap (λ o. bind_if hash (refined (in_field n non_nil) o) s) at ∙ ap (λ j. bind_if hash (option_map (λ i. map (field n i true fs)) (non_nil j)) s) is

pub returns-clause-name : goal.returns-clause-name
returns-clause-name c = λ s x fs n k other at is.
    ap (λ o. having_name (name x) o s) (read-string n) ∙ of-name s x (map fs) (knowing_name n) other at ∙ ap (λ o. bind_if x (option_map (λ i. map (field n i true fs)) o) s) is
