-- What a call returns, given the kinds of its arguments.
use Rattle.std.proofs.Common.{◌≡◌, ℕ, Bool, true, false, List, [], ◌∷◌, Option, Some, None, is_some, Err, MatchBool, MatchOption, refl, ap, ◌∙◌, subst, inl, inr}
use Rattle.expr_arguments.specs.Parts.{index_answer}
use Rattle.expr_builtins.specs.Collections.{CollectionCalled}
use Rattle.expr_context.specs.Context.{ContextView}
use Rattle.expr_context.specs.Lookups.{predicate_context}
use Rattle.expr_context.specs.Told.{PredicateArgsView}
use Rattle.expr_error.specs.ErrorKind.{evaluation}
use Rattle.expr_functions.specs.Functions.{builtin_named}
use Rattle.expr_functions.specs.declared.functions.Builtin.{Builtin}
use Rattle.expr_functions.specs.declared.functions.Builtin.TheVariants as builtin
use Rattle.expr_functions.specs.declared.functions.CollectionCall.TheVariants.{Get}
use Rattle.expr_meaning.specs.Allows.{AllowsCall}
use Rattle.expr_meaning.specs.Calls.{AllowsBuiltin, AllowsOnValues, ByBuiltin}
use Rattle.expr_meaning.specs.Host.{Host}
use Rattle.expr_predicates.specs.Calls.{AllowsHigherOrder}
use Rattle.expr_value.specs.Answers.{Answer}
use Rattle.expr_value.specs.declared.value.Value as value
use Rattle.expr_value.specs.declared.value.Value.{Value}
use Rattle.expr_kinds.specs.Causes.{Literals, AreKnown, effect_under}
use Rattle.expr_schema.specs.Kinds.{Kind, never, map, Fields, HasKind, Fits, Effect}
use Rattle.expr_kinds.specs.Effects.{ResultIs, Yields}
use Rattle.expr_kinds.specs.Overloads.{HaveKindsThen, overloads}
use Rattle.expr_schema.specs.Scopes.{Scope, Signature, Conforms}
use Rattle.expr_kinds.specs.Scopes.{Hosts, HaveKinds, at_name}
use Rattle.expr_kinds.specs.Typed.{AllFit, Asking, BuiltinGives, ByOverload, BySignature, CallGives, host_timed}
use Rattle.expr_kinds.proofs.Answered.{ResultIs-under, same-yields}
use Rattle.expr_kinds.proofs.Folding.{higher-order-yields}
use Rattle.expr_kinds.proofs.Held.{Of, OverloadHolds, at-kind}
use Rattle.expr_kinds.proofs.Known.{OneOf-use}
use Rattle.expr_kinds.proofs.Literals.{all-known}
use Rattle.expr_kinds.proofs.Indexed.{named-field}
use Rattle.expr_kinds.proofs.OnValues.{only-time, overloads-hold}

-- arguments of kinds that fit
fitting-more : (ks : List Kind) (more : Kind) (vs : List Value) → AllFit ks [] more → HaveKinds ks vs → HaveKindsThen [] more vs
fitting-more [] more [] f h = tt
fitting-more [] more (v ∷ vs) f h = absurd h
fitting-more (k ∷ ks) more [] f h = absurd h
fitting-more (k ∷ ks) more (v ∷ vs) f h = (f.0 v h.0, fitting-more ks more vs f.1 h.1)

pub fitting : (ks bs : List Kind) (more : Kind) (vs : List Value) → AllFit ks bs more → HaveKinds ks vs → HaveKindsThen bs more vs
fitting ks [] more vs f h = fitting-more ks more vs f h
fitting [] (b ∷ bs) more vs f h = absurd f
fitting (k ∷ ks) (b ∷ bs) more [] f h = h
fitting (k ∷ ks) (b ∷ bs) more (v ∷ vs) f h = (f.0 v h.0, fitting ks bs more vs f.1 h.1)

exactly : (bs : List Kind) (vs : List Value) → HaveKindsThen bs never vs → HaveKinds bs vs
exactly [] [] h = tt
exactly [] (v ∷ vs) h = absurd h.0
exactly (b ∷ bs) [] h = absurd h
exactly (b ∷ bs) (v ∷ vs) h = (h.0, exactly bs vs h.1)

-- `get` with a literal name
second-known : (o : Option Value) (u v w : Value) → AreKnown (o ∷ Some u ∷ []) (v ∷ w ∷ []) → w ≡ u
second-known None u v w k = k.0
second-known (Some x) u v w k = k.1.0

got-field : (e : Effect) (o : Option Value) (a b : Kind) (fs : Fields) (n : List ℕ) → Fits a (map fs) → (vs : List Value) → HaveKinds (a ∷ b ∷ []) vs → AreKnown (o ∷ Some (value.String n) ∷ []) vs
    → Yields e (Of (at_name fs n)) (CollectionCalled Get vs)
got-field e o a b fs n fits [] h k = absurd h
got-field e o a b fs n fits (v ∷ []) h k = absurd h.1
got-field e o a b fs n fits (v ∷ w ∷ []) h k = same-yields e (Of (at_name fs n)) (index_answer v w false) (named-field e fs n false v w (fits v h.0) (second-known o (value.String n) v w k))
got-field e o a b fs n fits (v ∷ w ∷ x ∷ more) h k = absurd h.1.1

module _ (e : Effect) (host : Host) (s : Scope) (hosts : Hosts s host) (ctx : ContextView) (c : Conforms s ctx) (asking : Asking) (asks : PredicateArgsView → Answer → Type 0)
    (of_asking : (inside : Scope) → Hosts inside host → (item answer : Kind) → asking inside item answer → (q : PredicateArgsView) → Conforms inside (predicate_context ctx q) → HasKind item q.item → Yields e (Of answer) (asks q))
    (key : List ℕ) (given : Bool) (k : Kind) (known : Literals) (ks : List Kind) (vs : List Value) (have : HaveKinds ks vs) (are : AreKnown known vs) where
  of-builtin : (o : Option Builtin) → BuiltinGives e s o known ks given asking k
      → (a : Answer) → ByBuiltin o (a ≡ Err evaluation) (λ f. AllowsOnValues host f vs a) (λ b. AllowsHigherOrder b vs given asks a) → ResultIs e (Of k) a
  of-builtin None q a p = absurd q
  of-builtin (Some (builtin.OnValues f)) (inl (x, q)) a p =
      OneOf-use (ByOverload e known ks k) (OverloadHolds (AllowsOnValues host f)) (ResultIs e (Of k) a) (overloads f x) (overloads-hold host f x) q (λ o by holds_here.
      at-kind e k o.gives a by.1 (ResultIs-under (effect_under o.cause known) e (Of o.gives) (Of o.gives) (λ v h. h) by.2 a (holds_here known vs (fitting ks o.takes o.more vs by.0 have) are a p)))
  of-builtin (Some (builtin.OnValues f)) (inr (inl (us, is, yields))) a p =
      let same = all-known us vs (subst (λ n. AreKnown n vs) is are) in
      yields host.zones host.moment a (subst (λ ws. AllowsOnValues (host_timed host.zones host.moment) f ws a) same (only-time host f vs a p))
  of-builtin (Some (builtin.OnValues f)) (inr (inr (j, b, fs, n, o, f_is, ks_are, are_known, fits, q))) a p =
      at-kind e k (at_name fs n) a q (got-field e o j b fs n fits vs (subst (λ is. HaveKinds is vs) ks_are have) (subst (λ is. AreKnown is vs) are_known are) a (subst (λ g. AllowsOnValues host g vs a) f_is p))
  of-builtin (Some (builtin.HigherOrder b)) q a p = higher-order-yields e host s hosts ctx c asking asks of_asking known given k b ks q vs have are a p

  by-function : (o : Option Signature) → s.functions key ≡ o → MatchOption o (BuiltinGives e s (builtin_named key) known ks given asking k) (BySignature e ks k) → Yields e (Of k) (AllowsCall host key vs given asks)
  by-function None is q a p =
      let none : host.is_added key ≡ false = hosts.added key ∙ ap (λ o. is_some o) is in
      of-builtin (builtin_named key) q a (subst (λ b. MatchBool b (host.calls key vs a) (AllowsBuiltin host key vs given asks a)) none p)
  by-function (Some sig) is (fit, same, covers) a p =
      let some : host.is_added key ≡ true = hosts.added key ∙ ap (λ o. is_some o) is in
      let asked_it : host.calls key vs a = subst (λ b. MatchBool b (host.calls key vs a) (AllowsBuiltin host key vs given asks a)) some p in
      at-kind e k sig.gives a same (ResultIs-under sig.effect e (Of sig.gives) (Of sig.gives) (λ v h. h) covers a (hosts.calls key sig is vs (exactly sig.arguments vs (fitting ks sig.arguments never vs fit have)) a asked_it))

  pub call-yields : CallGives e s key known ks given asking k → Yields e (Of k) (AllowsCall host key vs given asks)
  call-yields q = by-function (s.functions key) refl q
