-- Fields that let stand what others do.
use Rattle.std.proofs.Common.{◌≡◌, ℕ, Bool, true, false, IsSome, List, map as each, Option, Some, None, option_map, bytes_eq, refl, sym, subst, ap, ◌∙◌, inl, inr}
use Rattle.std.specs.Map.{lookup}
use Rattle.expr_value.specs.Names.{find}
use Rattle.expr_value.specs.declared.value.Value as value
use Rattle.expr_value.specs.declared.value.Value.{Value}
use Rattle.expr_schema.specs.Kinds.{Kind, Each, Fields, Fits, Found, HasKind, Lets, StandsAt, nil, array, map, keyed, nilable}
use Rattle.expr_schema.specs.KindView.{Entry, StandsBy, LetsOthers, LetsEntry, fields_view, kind_view, named_of, others_of, entry_view}
use Rattle.expr_schema.specs.declared.kind.Kind as memory
use Rattle.expr_schema.specs.declared.kind.Kind.TheVariants as form
use Rattle.expr_schema.specs.declared.kind.Fields as memory_fields
use Rattle.expr_schema.specs.declared.kind.Fields.{out-Fields}
use Rattle.expr_schema.specs.declared.kind.FieldKind.{FieldKind, out-FieldKind}
use Rattle.expr_schema.proofs.Lists.{lookup-Each, Each-weaker}
use Rattle.expr_schema.proofs.Shapes.{kind_view-Array, kind_view-KeyedMap}
use Rattle.expr_schema.proofs.Standing.{same_name, find-entries, entry_view-parts, by}

-- kinds of arrays and maps, by their parts
pub array_fits : (j k : Kind) → Fits j k → Fits (array j) (array k)
array_fits j k f v (xs, is, each) = (xs, is, Each-weaker (λ x. HasKind j x) (λ x. HasKind k x) f xs each)

pub keyed_fits : (j k : Kind) → Fits j k → Fits (keyed j) (keyed k)
keyed_fits j k f v (m, is, each) = (m, is, Each-weaker (λ e. HasKind j e.1) (λ e. HasKind k e.1) (λ e. f e.1) m each)

pub map_fits : (a b : Fields) → ((n : List ℕ) → Lets a b n) → Fits (map a) (map b)
map_fits a b f v (m, is, stands) = (m, is, λ n. f n (find n m) (stands n))

pub nilable_fits : (j k : Kind) → HasKind k value.Nil → Fits j k → Fits (nilable j) k
nilable_fits j k h f v (inl e) = subst (λ w. HasKind k w) (sym e) h
nilable_fits j k h f v (inr h') = f v h'

pub nil_fits : (k : Kind) → HasKind k value.Nil → Fits nil k
nil_fits k h v e = subst (λ w. HasKind k w) (sym e) h

-- the same by other names
pub fits_by : (a j b k : Kind) → a ≡ j → Fits k b → Fits j k → Fits a b
fits_by a j b k e f g v h = f v (g v (subst (λ i. HasKind i v) e h))

pub found_fits : (r s : Bool) (j k : Kind) → Fits j k → (s ≡ true → r ≡ true) → (x : Option Value) → Found r (λ v. HasKind j v) x → Found s (λ v. HasKind k v) x
found_fits r s j k f q (Some v) h = f v h
found_fits true true j k f q None h = h
found_fits true false j k f q None h = tt
found_fits false false j k f q None h = tt
found_fits false true j k f q None h = let w : false ≡ true = q refl in absurd (cc w)

-- each field lets stand what other fields do
abbrev pub EntryFits : memory_fields.Fields → List ℕ × FieldKind → Type 0
EntryFits b e = LetsEntry (entry_view e.1) (fields_view b) e.0

abbrev pub UnnamedFits : memory_fields.Fields → List ℕ × FieldKind → Type 0
UnnamedFits a e = find e.0 (named_of a) ≡ None → LetsOthers (others_of a) (entry_view e.1)

module _ (a b : memory_fields.Fields) (n : List ℕ) where
  found_in : (f : memory_fields.Fields) → (r : Option FieldKind) → lookup (bytes_eq n) (out-Fields f).named ≡ r → find n (named_of f) ≡ option_map entry_view r
  found_in f r e = find-entries n (out-Fields f).named ∙ ap (option_map entry_view) e

  pub named_lets : Each (EntryFits b) (out-Fields a).named → IsSome (find n (named_of a)) → Lets (fields_view a) (fields_view b) n
  named_lets all there = here (lookup (bytes_eq n) (out-Fields a).named) refl
    where
      here : (r : Option FieldKind) → lookup (bytes_eq n) (out-Fields a).named ≡ r → Lets (fields_view a) (fields_view b) n
      here (Some g) q x h =
          let (k, t, f) = lookup-Each (EntryFits b) (bytes_eq n) (out-Fields a).named g all q in
          subst (λ i. StandsAt (fields_view b) i x) (sym (same_name n k t)) (f x ((by a n (Some (entry_view g)) (others_of a) (found_in a (Some g) q) refl x).0 h))
      here None q x h = let w : IsSome {T = Entry} None = subst IsSome (found_in a None q) there in absurd (cc w)

  pub unnamed_lets : Each (UnnamedFits a) (out-Fields b).named → find n (named_of a) ≡ None → IsSome (find n (named_of b)) → Lets (fields_view a) (fields_view b) n
  unnamed_lets all missing there = here (lookup (bytes_eq n) (out-Fields b).named) refl
    where
      here : (r : Option FieldKind) → lookup (bytes_eq n) (out-Fields b).named ≡ r → Lets (fields_view a) (fields_view b) n
      here (Some g) q x h =
          let (k, t, f) = lookup-Each (UnnamedFits a) (bytes_eq n) (out-Fields b).named g all q in
          let none : find k (named_of a) ≡ None = ap (λ i. find i (named_of a)) (sym (same_name n k t)) ∙ missing in
          (by b n (Some (entry_view g)) (others_of b) (found_in b (Some g) q) refl x).1 (f none x ((by a n None (others_of a) missing refl x).0 h))
      here None q x h = let w : IsSome {T = Entry} None = subst IsSome (found_in b None q) there in absurd (cc w)

  pub others_let : ((x : Option Value) → StandsBy None (others_of a) x → StandsBy None (others_of b) x) → find n (named_of a) ≡ None → find n (named_of b) ≡ None → Lets (fields_view a) (fields_view b) n
  others_let f p q x h = (by b n None (others_of b) q refl x).1 (f x ((by a n None (others_of a) p refl x).0 h))

-- what stands at each name may stand, whichever fields have it
pub all_let : (a b : memory_fields.Fields) → ((n : List ℕ) → IsSome (find n (named_of a)) → Lets (fields_view a) (fields_view b) n)
    → ((n : List ℕ) → find n (named_of a) ≡ None → IsSome (find n (named_of b)) → Lets (fields_view a) (fields_view b) n)
    → ((n : List ℕ) → find n (named_of a) ≡ None → find n (named_of b) ≡ None → Lets (fields_view a) (fields_view b) n) → (n : List ℕ) → Lets (fields_view a) (fields_view b) n
all_let a b f g h n = here (find n (named_of a)) (find n (named_of b)) refl refl
  where
    here : (r s : Option Entry) → find n (named_of a) ≡ r → find n (named_of b) ≡ s → Lets (fields_view a) (fields_view b) n
    here (Some r) s p q = f n (subst IsSome (sym p) refl)
    here None (Some s) p q = g n p (subst IsSome (sym q) refl)
    here None None p q = h n p q

-- what stands at other names
none_stands : (o : Option Kind) → StandsBy None o None
none_stands (Some k) = tt
none_stands None = refl

module _ (a b : memory_fields.Fields) (x : Option Value) where
  pub others_both : (k l : memory.Kind) → (out-Fields a).others ≡ Some k → (out-Fields b).others ≡ Some l → Fits (kind_view k) (kind_view l)
      → StandsBy None (others_of a) x → StandsBy None (others_of b) x
  others_both k l p q f h =
      subst (λ o. StandsBy None o x) (sym (ap (option_map kind_view) q)) (
      found_fits false false (kind_view k) (kind_view l) f (λ e. e) x (subst (λ o. StandsBy None o x) (ap (option_map kind_view) p) h)
      )

  pub others_none : (out-Fields a).others ≡ None → StandsBy None (others_of a) x → StandsBy None (others_of b) x
  others_none p h =
      let none : x ≡ None = subst (λ o. StandsBy None o x) (ap (option_map kind_view) p) h in
      subst (λ y. StandsBy None (others_of b) y) (sym none) (none_stands (others_of b))

-- what a field lets stand
pub by_parts : (g : FieldKind) (x : Option Value) → Found (entry_view g).required (λ v. HasKind (entry_view g).kind v) x
    → Found (out-FieldKind g).required (λ v. HasKind (kind_view (out-FieldKind g).kind) v) x
by_parts g x h = subst (λ s. Found s.required (λ v. HasKind s.kind v) x) (entry_view-parts g) h

-- arrays, and maps by keys
module _ (a b core item item' other other' : memory.Kind) (below : Fits (kind_view core) (kind_view b)) (at : item' ≡ item) (over : other' ≡ other)
    (inner : Fits (kind_view item') (kind_view other')) where
  parts_fit : Fits (kind_view item) (kind_view other)
  parts_fit v h = subst (λ k. HasKind (kind_view k) v) over (inner v (subst (λ k. HasKind (kind_view k) v) (sym at) h))

  pub arrays_fit : a ≡ form.Array item → core ≡ form.Array other → Fits (kind_view a) (kind_view b)
  arrays_fit e f v h =
      below v (subst (λ k. HasKind k v) (sym (ap kind_view f ∙ kind_view-Array other)) (
      array_fits (kind_view item) (kind_view other) parts_fit v (subst (λ k. HasKind k v) (ap kind_view e ∙ kind_view-Array item) h)
      ))

  pub keyed_maps_fit : a ≡ form.KeyedMap item → core ≡ form.KeyedMap other → Fits (kind_view a) (kind_view b)
  keyed_maps_fit e f v h =
      below v (subst (λ k. HasKind k v) (sym (ap kind_view f ∙ kind_view-KeyedMap other)) (
      keyed_fits (kind_view item) (kind_view other) parts_fit v (subst (λ k. HasKind k v) (ap kind_view e ∙ kind_view-KeyedMap item) h)
      ))
