-- Kinds that have the values of others.
use Rattle.std.proofs.Common.{◌≡◌, ◌≢◌, ◌↔◌, ◌⊎◌, ℕ, Bool, true, false, List, Option, Some, None, IfSome, option_map, refl, sym, subst, ap, ◌∙◌, rules, inl, inr}
use Rattle.expr_value.specs.declared.value.Value as value
use Rattle.expr_value.specs.declared.value.Value.{Value, out-Value, roll-Value, the_lemmas as value_lemmas}
use Rattle.expr_value.specs.declared.value.Value.TheOpen.{Value-F}
use Rattle.expr_schema.specs.Joins.{EntryHas, EntryLets, OthersLet}
use Rattle.expr_schema.specs.Kinds.{Kind, Fits, Found, HasKind, Lets, array, keyed, nilable}
use Rattle.expr_schema.specs.KindView.{LetsOthers, entry_view, fields_view, kind_view}
use Rattle.expr_schema.specs.declared.kind.Kind as memory
use Rattle.expr_schema.specs.declared.kind.Kind.{the_lemmas}
use Rattle.expr_schema.specs.declared.kind.Kind.TheVariants as form
use Rattle.expr_schema.specs.declared.kind.Fields as memory_fields
use Rattle.expr_schema.specs.declared.kind.FieldKind.{FieldKind, out-FieldKind, roll-FieldKind}
use Rattle.expr_schema.proofs.Layers.{out-nil}
use Rattle.expr_schema.proofs.Lettings.{array_fits, by_parts, found_fits, keyed_fits, map_fits}
use Rattle.expr_schema.proofs.Shapes.{kind_view-Array, kind_view-KeyedMap, kind_view-Map, kind_view-Never, kind_view-Nil, kind_view-Nilable}
use Rattle.expr_schema.proofs.Standing.{entry_view-parts}

-- a value is nil or it isn't
pub nil_or : (v : Value) → (v ≡ value.Nil) ⊎ (v ≢ value.Nil)
nil_or v = here (out-Value v) refl
  where
    rolled : roll-Value (out-Value v) ≡ v
    rolled = search (rules, value_lemmas)

    nil_layer : roll-Value Value-F.Nil ≡ value.Nil
    nil_layer = search (rules, value_lemmas)

    other : (l : Value-F Value) → out-Value v ≡ l → l ≢ Value-F.Nil → (v ≡ value.Nil) ⊎ (v ≢ value.Nil)
    other l e n = inr (λ q. n (sym e ∙ ap out-Value q ∙ out-nil))

    here : (l : Value-F Value) → out-Value v ≡ l → (v ≡ value.Nil) ⊎ (v ≢ value.Nil)
    here Value-F.Nil e = inl (sym rolled ∙ ap roll-Value e ∙ nil_layer)
    here (Value-F.Integer x) e = other (Value-F.Integer x) e (λ q. cc q)
    here (Value-F.Bool x) e = other (Value-F.Bool x) e (λ q. cc q)
    here (Value-F.String x) e = other (Value-F.String x) e (λ q. cc q)
    here (Value-F.Duration x) e = other (Value-F.Duration x) e (λ q. cc q)
    here (Value-F.Month x) e = other (Value-F.Month x) e (λ q. cc q)
    here (Value-F.Weekday x) e = other (Value-F.Weekday x) e (λ q. cc q)
    here (Value-F.DateTime x) e = other (Value-F.DateTime x) e (λ q. cc q)
    here (Value-F.Timezone x) e = other (Value-F.Timezone x) e (λ q. cc q)
    here (Value-F.Array x) e = other (Value-F.Array x) e (λ q. cc q)
    here (Value-F.Bytes x) e = other (Value-F.Bytes x) e (λ q. cc q)
    here (Value-F.Map x) e = other (Value-F.Map x) e (λ q. cc q)
    here (Value-F.KeyedMap x) e = other (Value-F.KeyedMap x) e (λ q. cc q)

-- the one kind has the values of the other, and nil
abbrev pub WithNil : Kind → Kind → Type 0
WithNil j k = (v : Value) → (HasKind j v ↔ HasKind (nilable k) v)

pub into_with_nil : (a k j : Kind) → WithNil j k → Fits a k → Fits a j
into_with_nil a k j e f v h = (e v).1 (inr (f v h))

-- what a kind has but nil, with nil
module _ (b core : Kind) (values : (v : Value) → v ≢ value.Nil → (HasKind b v ↔ HasKind core v)) where
  pub into_core_or_nil : (k j : Kind) → WithNil j k → Fits core k → Fits b j
  into_core_or_nil k j e f v h = here (nil_or v)
    where
      here : (v ≡ value.Nil) ⊎ (v ≢ value.Nil) → HasKind j v
      here (inl n) = (e v).1 (inl n)
      here (inr n) = (e v).1 (inr (f v ((values v n).0 h)))

  pub into_core : (k : Kind) → (HasKind b value.Nil → ⊥) → Fits core k → Fits b k
  into_core k without f v h = f v ((values v (λ n. without (subst (λ w. HasKind b w) n h))).0 h)

-- a kind in memory, by its form
module _ (a : memory.Kind) where
  pub never_into : (k : Kind) → a ≡ form.Never → Fits (kind_view a) k
  never_into k e v h = absurd (subst (λ j. HasKind j v) (ap kind_view e ∙ kind_view-Never) h)

  pub nil_into : (k j : Kind) → a ≡ form.Nil → WithNil j k → Fits (kind_view a) j
  nil_into k j e w v h = (w v).1 (inl (subst (λ i. HasKind i v) (ap kind_view e ∙ kind_view-Nil) h))

  pub same_into : (k : memory.Kind) → k ≡ a → Fits (kind_view a) (kind_view k)
  same_into k e v h = subst (λ i. HasKind (kind_view i) v) (sym e) h

  pub map_into : (fs gs : memory_fields.Fields) → a ≡ form.Map fs → ((n : List ℕ) → Lets (fields_view fs) (fields_view gs) n) → Fits (kind_view a) (kind_view (form.Map gs))
  map_into fs gs e f v h =
      subst (λ j. HasKind j v) (sym (kind_view-Map gs))
      (map_fits (fields_view fs) (fields_view gs) f v (subst (λ j. HasKind j v) (ap kind_view e ∙ kind_view-Map fs) h))

  module _ (item item' : memory.Kind) (k j : Kind) (at : item' ≡ item) (f : Fits (kind_view item') k) where
    inside : Fits (kind_view item) k
    inside v h = f v (subst (λ i. HasKind (kind_view i) v) (sym at) h)

    pub array_into : a ≡ form.Array item → j ≡ array k → Fits (kind_view a) j
    array_into e q v h =
        subst (λ i. HasKind i v) (sym q) (array_fits (kind_view item) k inside v (subst (λ i. HasKind i v) (ap kind_view e ∙ kind_view-Array item) h))

    pub keyed_into : a ≡ form.KeyedMap item → j ≡ keyed k → Fits (kind_view a) j
    keyed_into e q v h =
        subst (λ i. HasKind i v) (sym q) (keyed_fits (kind_view item) k inside v (subst (λ i. HasKind i v) (ap kind_view e ∙ kind_view-KeyedMap item) h))

    pub nilable_into : a ≡ form.Nilable item → WithNil j k → Fits (kind_view a) j
    nilable_into e w v h = here (subst (λ i. HasKind i v) (ap kind_view e ∙ kind_view-Nilable item) h)
      where
        here : (v ≡ value.Nil) ⊎ HasKind (kind_view item) v → HasKind j v
        here (inl n) = (w v).1 (inl n)
        here (inr p) = (w v).1 (inr (inside v p))

-- an entry that is made of a kind
abbrev pub made_of : memory.Kind → Bool → FieldKind
made_of k required = roll-FieldKind (record { kind = k; required = required })

made_parts : (k : memory.Kind) (r : Bool) → out-FieldKind (made_of k r) ≡ record { kind = k; required = r }
made_parts k r = search (rules, the_lemmas)

module _ (k : memory.Kind) (r : Bool) where
  pub made_has : (x : Option Value) → Found r (λ v. HasKind (kind_view k) v) x → EntryHas (entry_view (made_of k r)) x
  made_has x h =
      subst (λ s. Found s.required (λ v. HasKind s.kind v) x) (sym (entry_view-parts (made_of k r)))
      (subst (λ s. Found s.required (λ v. HasKind (kind_view s.kind) v) x) (sym (made_parts k r)) h)

  pub made_lets : (g : FieldKind) → Fits (kind_view (out-FieldKind g).kind) (kind_view k) → (r ≡ true → (out-FieldKind g).required ≡ true) → EntryLets (entry_view g) (entry_view (made_of k r))
  made_lets g f q x h = made_has x (found_fits (out-FieldKind g).required r (kind_view (out-FieldKind g).kind) (kind_view k) f q x (by_parts g x h))

-- what is true of a value that is there
pub if_some : {X : Type 0} (o : Option X) (P : X → Type 0) → IfSome o P → (x : X) → o ≡ Some x → P x
if_some (Some y) P h x e = let same : y ≡ x = cc e in subst P same h
if_some None P h x e = absurd (cc e)

-- what stands at other names
pub others_into : (o : Option memory.Kind) (k : Kind) → ((l : memory.Kind) → o ≡ Some l → Fits (kind_view l) k) → OthersLet (option_map kind_view o) (Some k)
others_into (Some l) k f x h = found_fits false false (kind_view l) k (f l refl) (λ e. e) x h
others_into None k f x h = subst (λ y. Found false (λ v. HasKind k v) y) (sym h) tt

pub others_made : (o : Option memory.Kind) (k : memory.Kind) → ((l : memory.Kind) → o ≡ Some l → Fits (kind_view l) (kind_view k)) → LetsOthers (option_map kind_view o) (entry_view (made_of k false))
others_made o k f x h = made_has k false x (others_into o (kind_view k) f x h)
