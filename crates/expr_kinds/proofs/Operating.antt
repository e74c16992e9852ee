-- What an operator returns, given the kinds of its sides.
use Rattle.std.proofs.Common.{◌≡◌, ◌⊎◌, Bool, true, false, [], ◌∷◌, Ok, Err, refl, sym, ap, ◌∙◌, subst, inl, inr}
use Rattle.expr_error.specs.ErrorKind.{pattern}
use Rattle.expr_functions.specs.declared.operator.Operator.{Operator}
use Rattle.expr_functions.specs.declared.strictness.Strictness.{Strictness}
use Rattle.expr_functions.specs.declared.strictness.Strictness.TheVariants.{Both, EndsAtFalse, EndsAtTrue, Pattern}
use Rattle.expr_meaning.specs.Allows.{AndThenLayer, BranchMayReturnLayer, DefaultsLayer, OperationMayReturnBy, OrElseLayer}
use Rattle.expr_operators.specs.Matching.{MatchMayReturn, MatchMayReturnLayers, MatchesText}
use Rattle.expr_operators.specs.Operators.{operator_answer, truth, truth_layer}
use Rattle.expr_value.specs.Answers.{Answer, Then}
use Rattle.expr_value.specs.declared.value.Value as value
use Rattle.expr_value.specs.declared.value.Value.{Value, out-Value}
use Rattle.expr_value.specs.declared.value.Value.TheOpen.{Value-F}
use Rattle.expr_kinds.specs.Causes.{Literals, AreKnown, effect_under}
use Rattle.expr_schema.specs.Kinds.{Kind, bool, string, nilable, HasKind, Fits, Effect}
use Rattle.expr_kinds.specs.Effects.{AdmitsError, ResultIs, Yields}
use Rattle.expr_kinds.specs.Tables.{rows}
use Rattle.expr_kinds.specs.Typed.{ByRow, OneOf, OperationGivesBy, Within}
use Rattle.expr_kinds.proofs.Answered.{ResultIs-under, Then-yields, same-yields, value-yields, with-allowed}
use Rattle.expr_kinds.proofs.Held.{Of, at-kind}
use Rattle.expr_kinds.proofs.Known.{OneOf-use, Within-yields}
use Rattle.expr_kinds.proofs.Layers.{Layer, at-layer, at-layers, bool-layer, nil-layer, string-layer}
use Rattle.expr_kinds.proofs.Rows.{RowHolds, rows-hold}

-- the left side, where the operator goes on to its right
abbrev pub Continues : Strictness → Value → Type 0
Continues Both x = Unit {0}
Continues EndsAtFalse x = out-Value x ≡ Value-F.Bool true
Continues EndsAtTrue x = out-Value x ≡ Value-F.Bool false
Continues Pattern x = Unit {0}

-- operators
module _ (e : Effect) (op : Operator) (known : Literals) (left right : Kind → Type 0) (l r : Answer → Type 0)
    (of_left : (a : Kind) → left a → Yields e (Of a) l) (known_of : (x y : Value) → l (Ok x) → r (Ok y) → AreKnown known (x ∷ y ∷ [])) (k : Kind) where
  abbrev Rights : Type 0
  Rights = (a : Kind) → right a → Yields e (Of a) r

  truth-bool-layer : (y : Value) → HasKind bool y → ResultIs e (Of bool) (truth y)
  truth-bool-layer y h = at-layer (λ m. ResultIs e (Of bool) (truth_layer m)) y _ (bool-layer y h) (h.0, refl)

  then_right : Rights → Within right bool → Yields e (Of bool) (Then r (λ y a. a ≡ truth y))
  then_right f w = Then-yields e (Of bool) (Of bool) r (λ y a. a ≡ truth y) (Within-yields e right r f bool w) (λ y h. same-yields e (Of bool) (truth y) (truth-bool-layer y h))

  and_then : (b : Bool) → (b ≡ true → Rights) → Within right bool → Yields e (Of bool) (AndThenLayer (Value-F.Bool b) r)
  and_then true f w a p = then_right (f refl) w a p
  and_then false f w a p = value-yields e (Of bool) (value.Bool false) (false, refl) a p

  or_else : (b : Bool) → (b ≡ false → Rights) → Within right bool → Yields e (Of bool) (OrElseLayer (Value-F.Bool b) r)
  or_else true f w a p = value-yields e (Of bool) (value.Bool true) (true, refl) a p
  or_else false f w a p = then_right (f refl) w a p

  matched : AdmitsError e pattern → (x y : Value) → HasKind string x → HasKind string y → Yields e (Of bool) (MatchMayReturn x y)
  matched admits x y h j = at-layers (λ m n. Yields e (Of bool) (MatchMayReturnLayers m n)) x y _ _ (string-layer x h) (string-layer y j) texts
    where
      texts : Yields e (Of bool) (MatchesText h.0 j.0)
      texts (Ok v) p = (p.0, p.2)
      texts (Err f) p = subst (λ g. AdmitsError e g) (sym p) admits

  -- a value of the left side, of a kind, and allowed
  lefts : (a : Kind) → Within left a → Yields e (λ x. Of a x × l (Ok x)) l
  lefts a w = with-allowed e (Of a) l (Within-yields e left l of_left a w)

  by_rows : ((x : Value) → l (Ok x) → Rights) → OneOf (ByRow e known left right k) (rows op) → Yields e (Of k) (Then l (λ x. OperationMayReturnBy Both op x r))
  by_rows f h =
      OneOf-use (ByRow e known left right k) (RowHolds op) (Yields e (Of k) (Then l (λ x. OperationMayReturnBy Both op x r))) (rows op) (rows-hold op) h (λ row by holds_here.
      Then-yields e (λ x. Of row.left x × l (Ok x)) (Of k) l (λ x. Then r (λ y a. a ≡ operator_answer op x y)) (lefts row.left by.0) (λ x hx.
      Then-yields e (λ y. Of row.right y × r (Ok y)) (Of k) r (λ y a. a ≡ operator_answer op x y) (with-allowed e (Of row.right) r (Within-yields e right r (f x hx.1) row.right by.1)) (λ y hy.
      same-yields e (Of k) (operator_answer op x y) (at-kind e k row.gives (operator_answer op x y) by.2
      (ResultIs-under (effect_under row.cause known) e (Of row.gives) (Of row.gives) (λ v i. i) by.3 (operator_answer op x y) (holds_here known x y hx.0 hy.0 (known_of x y hx.1 hy.1)))))))

  both_bools : ((x : Value) → l (Ok x) → out-Value x ≡ Value-F.Bool true → Rights) → Within left bool × Within right bool × (k ≡ bool) → Yields e (Of k) (Then l (λ x. OperationMayReturnBy EndsAtFalse op x r))
  both_bools f (wl, wr, q) a p =
      at-kind e k bool a q (Then-yields e (λ x. Of bool x × l (Ok x)) (Of bool) l (λ x. OperationMayReturnBy EndsAtFalse op x r) (lefts bool wl) (λ x hx.
      let is = bool-layer x hx.0 in
      at-layer (λ m. Yields e (Of bool) (AndThenLayer m r)) x _ is (and_then hx.0.0 (λ t. f x hx.1 (is ∙ ap (λ b. Value-F.Bool b) t)) wr)) a p)

  either_bool : ((x : Value) → l (Ok x) → out-Value x ≡ Value-F.Bool false → Rights) → Within left bool × Within right bool × (k ≡ bool) → Yields e (Of k) (Then l (λ x. OperationMayReturnBy EndsAtTrue op x r))
  either_bool f (wl, wr, q) a p =
      at-kind e k bool a q (Then-yields e (λ x. Of bool x × l (Ok x)) (Of bool) l (λ x. OperationMayReturnBy EndsAtTrue op x r) (lefts bool wl) (λ x hx.
      let is = bool-layer x hx.0 in
      at-layer (λ m. Yields e (Of bool) (OrElseLayer m r)) x _ is (or_else hx.0.0 (λ t. f x hx.1 (is ∙ ap (λ b. Value-F.Bool b) t)) wr)) a p)

  texts_matched : ((x : Value) → l (Ok x) → Rights) → Within left string × Within right string × (k ≡ bool) × AdmitsError e pattern → Yields e (Of k) (Then l (λ x. OperationMayReturnBy Pattern op x r))
  texts_matched f (wl, wr, q, admits) a p =
      at-kind e k bool a q (Then-yields e (λ x. Of string x × l (Ok x)) (Of bool) l (λ x. OperationMayReturnBy Pattern op x r) (lefts string wl) (λ x hx.
      Then-yields e (Of string) (Of bool) r (λ y. MatchMayReturn x y) (Within-yields e right r (f x hx.1) string wr) (λ y hy. matched admits x y hx.0 hy)) a p)

  pub operation-yields : (st : Strictness) → ((x : Value) → l (Ok x) → Continues st x → Rights) → OperationGivesBy st e op known left right k → Yields e (Of k) (Then l (λ x. OperationMayReturnBy st op x r))
  operation-yields Both f h = by_rows (λ x a. f x a tt) h
  operation-yields EndsAtFalse f h = both_bools f h
  operation-yields EndsAtTrue f h = either_bool f h
  operation-yields Pattern f h = texts_matched (λ x a. f x a tt) h

-- branches
module _ (e : Effect) (k : Kind) (first second : Answer → Type 0) (v : Value)
    (of_first : out-Value v ≡ Value-F.Bool true → Yields e (Of k) first) (of_second : out-Value v ≡ Value-F.Bool false → Yields e (Of k) second) where
  picked : (b : Bool) → out-Value v ≡ Value-F.Bool b → Yields e (Of k) (BranchMayReturnLayer (Value-F.Bool b) first second)
  picked true q a p = of_first q a p
  picked false q a p = of_second q a p

  pub branch-yields : HasKind bool v → Yields e (Of k) (BranchMayReturnLayer (out-Value v) first second)
  branch-yields h = at-layer (λ m. Yields e (Of k) (BranchMayReturnLayer m first second)) v _ (bool-layer v h) (picked h.0 (bool-layer v h))

-- `??`
defaults-cases : (layer : Layer) (v : Value) (other : Answer → Type 0) (a : Answer) → DefaultsLayer layer v other a → other a ⊎ ((a ≡ Ok v) × ((layer ≡ Value-F.Nil) → ⊥))
defaults-cases Value-F.Nil v other a p = inl p
defaults-cases layer v other a p = inr (p, λ q. cc q)

pub defaults-yields : (e : Effect) (b k : Kind) → Fits b k → (other : Answer → Type 0) → Yields e (Of k) other → (v : Value) → HasKind (nilable b) v → Yields e (Of k) (DefaultsLayer (out-Value v) v other)
defaults-yields e b k fits other f v h a p = chosen h (defaults-cases (out-Value v) v other a p)
  where
    chosen : HasKind (nilable b) v → other a ⊎ ((a ≡ Ok v) × ((out-Value v ≡ Value-F.Nil) → ⊥)) → ResultIs e (Of k) a
    chosen i (inl q) = f a q
    chosen (inl i) (inr q) = absurd (q.1 (nil-layer v i))
    chosen (inr i) (inr q) = value-yields e (Of k) v (fits v i) a q.0
