-- Parts of values at a key, ranges and slices.
use Rattle.std.proofs.Common.{◌≡◌, ℕ, ℤ, Bool, true, List, length, take, Option, Ok, refl, sym, subst, inl, inr}
use Rattle.expr_arguments.specs.Parts.{index_answer, index_answer_layers}
use Rattle.expr_operators.specs.Bounds.{some_bound}
use Rattle.expr_operators.specs.Positions.{checked_bound, checked_bound_layer, how_many, in_a_row, integers_between, lossy_text, part, range_answer, range_answer_layers, slice_answer, slice_answer_layer, start_at, stop_at}
use Rattle.expr_tree.specs.Term.{Term}
use Rattle.expr_value.specs.Answers.{Answer, Then}
use Rattle.expr_value.specs.declared.value.Value as value
use Rattle.expr_value.specs.declared.value.Value.{Value, out-Value}
use Rattle.expr_value.specs.declared.value.Value.TheOpen.{Value-F}
use Rattle.expr_schema.specs.Kinds.{Kind, any, integer, string, bytes, array, nilable, HasKind, Each, Effect, total}
use Rattle.expr_kinds.specs.Effects.{ResultIs, Yields}
use Rattle.expr_kinds.specs.Scopes.{at_name}
use Rattle.expr_kinds.specs.Typed.{IndexGives, NamedBy, OptionalPartGives, PartGives, Within}
use Rattle.expr_kinds.proofs.Answered.{ResultIs-under, ResultIs-weaker, Then-yields, same-yields}
use Rattle.expr_kinds.proofs.Causes.{covers-total}
use Rattle.expr_kinds.proofs.Held.{Of, at-kind}
use Rattle.expr_kinds.proofs.Indexed.{byte-of, entry-of, item-of_array, named-field, value-of_map}
use Rattle.expr_kinds.proofs.Known.{Within-yields}
use Rattle.expr_kinds.proofs.Layers.{Layer, at-layer, at-layers, nil-layer, integer-layer, string-layer, bytes-layer, array-layer}
use Rattle.expr_kinds.proofs.Lists.{Each-all, Each-drop, Each-map, Each-take}

-- with `?` nothing is an error
optional-part : (l : Layer) (w : Value) (m : Layer) → ResultIs total (Of any) (index_answer_layers l w m true)
optional-part (Value-F.Array xs) w (Value-F.Integer n) = tt
optional-part (Value-F.Bytes bs) w (Value-F.Integer n) = tt
optional-part (Value-F.Map pairs) w (Value-F.String s) = tt
optional-part (Value-F.KeyedMap pairs) w (Value-F.Integer n) = tt
optional-part (Value-F.KeyedMap pairs) w (Value-F.String s) = tt
optional-part l w m = tt

module _ (e : Effect) (optional : Bool) (key : Term) (keyed_by : Kind → Type 0) (allows : Answer → Type 0)
    (of_key : (b : Kind) → keyed_by b → Yields e (Of b) allows) (named : (n : List ℕ) → NamedBy key n → (x : Answer) → allows x → x ≡ Ok (value.String n)) where
  literally : (n : List ℕ) → NamedBy key n → Yields e (λ v. v ≡ value.String n) allows
  literally n by x p = subst (λ r. ResultIs e (λ v. v ≡ value.String n) r) (sym (named n by x p)) refl

  -- what the part of a value is, whichever value the key has
  abbrev PartIs : Kind → Value → Type 0
  PartIs k v = Yields e (Of k) (Then allows (λ w r. r ≡ index_answer v w optional))

  module _ (k : Kind) where
    -- the part at a key of some kind
    by-kind : (b gives : Kind) → Within keyed_by b → k ≡ gives → (v : Value) → ((w : Value) → Of b w → ResultIs e (Of gives) (index_answer v w optional)) → PartIs k v
    by-kind b gives within q v f r p =
        at-kind e k gives r q (Then-yields e (Of b) (Of gives) allows (λ w s. s ≡ index_answer v w optional) (Within-yields e keyed_by allows of_key b within) (λ w j. same-yields e (Of gives) (index_answer v w optional) (f w j)) r p)

    -- the part at a literal name
    by-name : (n : List ℕ) (gives : Kind) → NamedBy key n → k ≡ gives → (v : Value) → ((w : Value) → w ≡ value.String n → ResultIs e (Of gives) (index_answer v w optional)) → PartIs k v
    by-name n gives by q v f r p =
        at-kind e k gives r q (Then-yields e (λ w. w ≡ value.String n) (Of gives) allows (λ w s. s ≡ index_answer v w optional) (literally n by) (λ w i. same-yields e (Of gives) (index_answer v w optional) (f w i)) r p)

  part-yields : (a k : Kind) → PartGives a key keyed_by k → (v : Value) → HasKind a v → PartIs k v
  part-yields a k (inl (fs, n, by, fits, q)) v h = by-name k n (at_name fs n) by q v (λ w i. named-field e fs n optional v w (fits v h) i)
  part-yields a k (inr (inl (item, fits, within, q))) v h = by-kind k integer (nilable item) within q v (λ w j. item-of_array e optional v w item (fits v h) j)
  part-yields a k (inr (inr (inl (fits, within, q)))) v h = by-kind k integer (nilable integer) within q v (λ w j. byte-of e optional v w (fits v h) j)
  part-yields a k (inr (inr (inr (inl (item, fits, within, q))))) v h = by-kind k string (nilable item) within q v (λ w j. value-of_map e optional v w item (fits v h) j)
  part-yields a k (inr (inr (inr (inr (item, fits, (b, by), q))))) v h = by-kind k b (nilable item) (b, by, λ u i. i) q v (λ w j. entry-of e optional v w item (fits v h))

  -- a key that a part is asked by has a value, or an error that is admitted
  key-yields : (a k : Kind) → PartGives a key keyed_by k → Yields e (Of any) allows
  key-yields a k (inl (fs, n, by, fits, q)) r p = ResultIs-weaker e (λ v. v ≡ value.String n) (Of any) (λ v i. tt) r (literally n by r p)
  key-yields a k (inr (inl (item, fits, (b, by, f), q))) r p = ResultIs-weaker e (Of b) (Of any) (λ v i. tt) r (of_key b by r p)
  key-yields a k (inr (inr (inl (fits, (b, by, f), q)))) r p = ResultIs-weaker e (Of b) (Of any) (λ v i. tt) r (of_key b by r p)
  key-yields a k (inr (inr (inr (inl (item, fits, (b, by, f), q))))) r p = ResultIs-weaker e (Of b) (Of any) (λ v i. tt) r (of_key b by r p)
  key-yields a k (inr (inr (inr (inr (item, fits, (b, by), q))))) r p = ResultIs-weaker e (Of b) (Of any) (λ v i. tt) r (of_key b by r p)

  module _ (opt : optional ≡ true) where
    -- any value may be asked
    asked-anything : (v : Value) → Yields e (Of any) allows → PartIs any v
    asked-anything v f =
        Then-yields e (Of any) (Of any) allows (λ w s. s ≡ index_answer v w optional) f (λ w j. same-yields e (Of any) (index_answer v w optional)
        (subst (λ b. ResultIs e (Of any) (index_answer v w b)) (sym opt) (ResultIs-under total e (Of any) (Of any) (λ u i. i) (covers-total e) (index_answer v w true) (optional-part (out-Value v) w (out-Value w)))))

    -- nil has no parts
    asked-nil : (k : Kind) (v : Value) → v ≡ value.Nil → Yields e (Of any) allows → PartIs (nilable k) v
    asked-nil k v is f =
        Then-yields e (Of any) (Of (nilable k)) allows (λ w s. s ≡ index_answer v w optional) f (λ w j. same-yields e (Of (nilable k)) (index_answer v w optional)
        (subst (λ b. ResultIs e (Of (nilable k)) (index_answer v w b)) (sym opt) (at-layer (λ l. ResultIs e (Of (nilable k)) (index_answer_layers l w (out-Value w) true)) v _ (nil-layer v is) (inl refl))))

    nil-or_part : (b part : Kind) → PartGives b key keyed_by part → (v : Value) → HasKind (nilable b) v → PartIs (nilable part) v
    nil-or_part b part gives v (inl is) r p = asked-nil part v is (key-yields b part gives) r p
    nil-or_part b part gives v (inr h) r p = ResultIs-weaker e (Of part) (Of (nilable part)) (λ u i. inr i) r (part-yields b part gives v h r p)

    optional-yields : (a k : Kind) → OptionalPartGives a key keyed_by k → (v : Value) → HasKind a v → PartIs k v
    optional-yields a k (inl (b, part, fits, gives, q)) v h r p = at-kind e k (nilable part) r q (nil-or_part b part gives v (fits v h) r p)
    optional-yields a k (inr ((b, by), q)) v h r p = at-kind e k any r q (asked-anything v (λ x i. ResultIs-weaker e (Of b) (Of any) (λ u j. tt) x (of_key b by x i)) r p)

  pub index-yields : (a k : Kind) → IndexGives optional a key keyed_by k → (v : Value) → HasKind a v → PartIs k v
  index-yields a k (inl gives) v h = part-yields a k gives v h
  index-yields a k (inr (opt, gives)) v h = optional-yields opt a k gives v h

-- ranges
in_a_row-integers : (first : ℤ) (count : ℕ) → Each (Of integer) (in_a_row first count)
unfolding in_a_row
in_a_row-integers first count = Each-map (Of integer) _ _ (Each-all _ (λ n. (_, refl)) _)

pub range-integers : (e : Effect) (x y : Value) → HasKind integer x → HasKind integer y → ResultIs e (Of (array integer)) (range_answer x y)
range-integers e x y h j =
    at-layers (λ l m. ResultIs e (Of (array integer)) (range_answer_layers l m)) x y _ _ (integer-layer x h) (integer-layer y j)
    (integers_between h.0 j.0, refl, in_a_row-integers h.0 (how_many h.0 j.0))

-- slices
pub bound-integer : (e : Effect) (w : Value) → HasKind integer w → ResultIs e (λ (o : Option ℤ). Unit {0}) (some_bound (checked_bound w))
bound-integer e w h = at-layer (λ l. ResultIs e (λ (o : Option ℤ). Unit {0}) (some_bound (checked_bound_layer l))) w _ (integer-layer w h) tt

module _ (e : Effect) (v : Value) (start stop : Option ℤ) where
  pub slice-array : (item : Kind) → HasKind (array item) v → ResultIs e (Of (array item)) (slice_answer v start stop)
  slice-array item h =
      at-layer (λ l. ResultIs e (Of (array item)) (slice_answer_layer l start stop)) v _ (array-layer item v h)
      (part start stop h.0, refl, Each-drop (Of item) (start_at (length h.0) start stop) (take (stop_at (length h.0) stop) h.0) (Each-take (Of item) (stop_at (length h.0) stop) h.0 h.2))

  pub slice-string : HasKind string v → ResultIs e (Of string) (slice_answer v start stop)
  slice-string h = at-layer (λ l. ResultIs e (Of string) (slice_answer_layer l start stop)) v _ (string-layer v h) (lossy_text (part start stop h.0), refl)

  pub slice-bytes : HasKind bytes v → ResultIs e (Of bytes) (slice_answer v start stop)
  slice-bytes h = at-layer (λ l. ResultIs e (Of bytes) (slice_answer_layer l start stop)) v _ (bytes-layer v h) (part start stop h.0, refl)
