-- What an overload says, and arguments by their number.
use Rattle.std.proofs.Common.{◌≡◌, List, [], ◌∷◌, sym, subst}
use Rattle.expr_value.specs.Answers.{Answer}
use Rattle.expr_value.specs.declared.value.Value.{Value}
use Rattle.expr_kinds.specs.Causes.{Literals, AreKnown, effect_under}
use Rattle.expr_schema.specs.Kinds.{Kind, never, HasKind, Effect}
use Rattle.expr_kinds.specs.Effects.{ResultIs, Yields}
use Rattle.expr_kinds.specs.Overloads.{Overload, HaveKindsThen}

abbrev pub Of : Kind → Value → Type 0
Of k v = HasKind k v

-- a call that returns what an overload says
abbrev pub OverloadHolds : (List Value → Answer → Type 0) → Overload → Type 0
OverloadHolds allowed o = (known : Literals) (vs : List Value) → HaveKindsThen o.takes o.more vs → AreKnown known vs → Yields (effect_under o.cause known) (Of o.gives) (allowed vs)

-- a result of an equal kind
pub at-kind : (e : Effect) (k j : Kind) (a : Answer) → k ≡ j → ResultIs e (Of j) a → ResultIs e (Of k) a
at-kind e k j a q h = subst (λ i. ResultIs e (Of i) a) (sym q) h

-- exactly so many arguments
pub exactly_none : (P : List Value → Type 0) → P [] → (vs : List Value) → HaveKindsThen [] never vs → P vs
exactly_none P f [] h = f
exactly_none P f (v ∷ more) h = absurd h.0

module _ (a : Kind) where
  pub exactly_one : (P : List Value → Type 0) → ((v : Value) → Of a v → P (v ∷ [])) → (vs : List Value) → HaveKindsThen (a ∷ []) never vs → P vs
  exactly_one P f [] h = absurd h
  exactly_one P f (v ∷ vs) h = exactly_none (λ us. P (v ∷ us)) (f v h.0) vs h.1

  module _ (b : Kind) where
    pub exactly_two : (P : List Value → Type 0) → ((v w : Value) → Of a v → Of b w → P (v ∷ w ∷ [])) → (vs : List Value) → HaveKindsThen (a ∷ b ∷ []) never vs → P vs
    exactly_two P f [] h = absurd h
    exactly_two P f (v ∷ []) h = absurd h.1
    exactly_two P f (v ∷ w ∷ vs) h = exactly_none (λ us. P (v ∷ w ∷ us)) (f v w h.0 h.1.0) vs h.1.1

    module _ (c : Kind) where
      pub exactly_three : (P : List Value → Type 0) → ((v w x : Value) → Of a v → Of b w → Of c x → P (v ∷ w ∷ x ∷ [])) → (vs : List Value) → HaveKindsThen (a ∷ b ∷ c ∷ []) never vs → P vs
      exactly_three P f [] h = absurd h
      exactly_three P f (v ∷ []) h = absurd h.1
      exactly_three P f (v ∷ w ∷ []) h = absurd h.1.1
      exactly_three P f (v ∷ w ∷ x ∷ vs) h = exactly_none (λ us. P (v ∷ w ∷ x ∷ us)) (f v w x h.0 h.1.0 h.1.1.0) vs h.1.1.1

      pub exactly_four : (d : Kind) (P : List Value → Type 0) → ((v w x y : Value) → Of a v → Of b w → Of c x → Of d y → P (v ∷ w ∷ x ∷ y ∷ [])) → (vs : List Value) → HaveKindsThen (a ∷ b ∷ c ∷ d ∷ []) never vs → P vs
      exactly_four d P f [] h = absurd h
      exactly_four d P f (v ∷ []) h = absurd h.1
      exactly_four d P f (v ∷ w ∷ []) h = absurd h.1.1
      exactly_four d P f (v ∷ w ∷ x ∷ []) h = absurd h.1.1.1
      exactly_four d P f (v ∷ w ∷ x ∷ y ∷ vs) h = exactly_none (λ us. P (v ∷ w ∷ x ∷ y ∷ us)) (f v w x y h.0 h.1.0 h.1.1.0 h.1.1.1.0) vs h.1.1.1.1
