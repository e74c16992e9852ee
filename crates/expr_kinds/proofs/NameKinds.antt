-- The value of a name is of the kind that the scope says.
use Rattle.std.proofs.Common.{◌≡◌, ◌⊎◌, ℕ, Bool, true, false, cond, List, Option, Some, None, Ok, MatchBool, bytes_eq, codes, refl, sym, ap, ◌∙◌, subst, inl, inr}
use Rattle.expr_context.specs.Context.{ContextView, hash}
use Rattle.expr_context.specs.Lookups.{field_in, field_of, first_of_two, lookup_answer}
use Rattle.expr_value.specs.Names.{find}
use Rattle.expr_value.specs.Values.{map_of}
use Rattle.expr_value.specs.declared.value.Value as value
use Rattle.expr_value.specs.declared.value.Value.{Value}
use Rattle.expr_schema.specs.Kinds.{Kind, map, Fields, HasKind, Fits, Effect}
use Rattle.expr_kinds.specs.Effects.{ResultIs, Yields}
use Rattle.expr_schema.specs.Scopes.{Scope, Conforms}
use Rattle.expr_kinds.specs.Scopes.{given_at, is_absent}
use Rattle.expr_kinds.specs.Typed.{NameHas}
use Rattle.expr_kinds.proofs.Answered.{same-yields}
use Rattle.expr_kinds.proofs.Found.{read-map}
use Rattle.expr_kinds.proofs.Held.{Of}
use Rattle.expr_kinds.proofs.Standing.{absent-stands, given-stands}

module _ (e : Effect) (s : Scope) (ctx : ContextView) (c : Conforms s ctx) (key : List ℕ) (k : Kind) where
  abbrev Known : Type 0
  Known = (given_at s.names key ≡ Some k) ⊎ ((h : Kind) × (fs : Fields) × (is_absent s.names key ≡ true) × (given_at s.names hash ≡ Some h) × Fits h (map fs) × (given_at fs key ≡ Some k))

  known : Known → ResultIs e (Of k) (first_of_two (ctx.value_of key) (field_of (ctx.value_of hash) key))
  known (inl q) =
      let v = given-stands s.names key k q (ctx.value_of key) (c.names key) in
      subst (λ o. ResultIs e (Of k) (first_of_two o (field_of (ctx.value_of hash) key))) (sym v.1) v.2
  known (inr (h, fs, absent, at_hash, fits, is)) =
      let none = absent-stands s.names key absent (ctx.value_of key) (c.names key) in
      let item = given-stands s.names hash h at_hash (ctx.value_of hash) (c.names hash) in
      let m = fits item.0 item.2 in
      let v = given-stands fs key k is (find key m.0) (m.2 key) in
      let field_is : field_of (ctx.value_of hash) key ≡ Some v.0
      = ap (λ o. field_of o key) item.1 ∙ ap (λ u. field_in_map u) m.1 ∙ ap (λ o. in_map o) (read-map m.0) ∙ v.1 in
      subst (λ o. ResultIs e (Of k) (first_of_two o (field_of (ctx.value_of hash) key))) (sym none)
      (subst (λ o. ResultIs e (Of k) (first_of_two None o)) (sym field_is) v.2)
    where
      in_map : Option (List (List ℕ × Value)) → Option Value
      in_map o = field_in o key

      field_in_map : Value → Option Value
      field_in_map u = field_in (map_of u) key

  of_name : (b : Bool) → MatchBool b (k ≡ map s.environment) Known → ResultIs e (Of k) (cond b (Ok (value.Map ctx.map)) (first_of_two (ctx.value_of key) (field_of (ctx.value_of hash) key)))
  of_name true q = subst (λ j. HasKind j (value.Map ctx.map)) (sym q) (ctx.map, refl, c.environment)
  of_name false q = known q

  pub name-yields : NameHas s key k → Yields e (Of k) (λ a. a ≡ lookup_answer ctx key)
  name-yields q = same-yields e (Of k) (lookup_answer ctx key) (of_name (bytes_eq key (codes "$env")) q)
