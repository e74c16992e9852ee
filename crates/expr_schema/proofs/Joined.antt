-- Fields that are joined one by one.
use Rattle.std.proofs.Common.{◌≡◌, ℕ, Bool, true, false, cond, IsSome, List, [], ◌∷◌, Option, Some, None, option_map, bytes_eq, refl, sym, subst, ap, ◌∙◌}
use Rattle.std.proofs.lemmas.Cmp.{nat_list_eq_equiv}
use Rattle.std.specs.Map.{lookup}
use Rattle.indexmap.specs.IndexMap.{insert_entry}
use Rattle.expr_value.specs.Names.{find}
use Rattle.expr_value.specs.declared.value.Value.{Value}
use Rattle.expr_schema.specs.Joins.{HasNames, HoldsBoth, AddsField, LetsInto, OthersLet, EntryHas, EntryLets}
use Rattle.expr_schema.specs.KindView.{Entry, StandsBy, fields_view, named_of, others_of, entry_view}
use Rattle.expr_schema.specs.Kinds.{Each, Lets, StandsAt}
use Rattle.expr_schema.specs.declared.kind.Fields as memory_fields
use Rattle.expr_schema.specs.declared.kind.Fields.{out-Fields}
use Rattle.expr_schema.specs.declared.kind.FieldKind.{FieldKind}
use Rattle.expr_schema.proofs.Insertion.{find-put}
use Rattle.expr_schema.proofs.Lists.{lookup-Each}
use Rattle.expr_schema.proofs.Standing.{by, find-entries, same_name}

pub Each-insert : (P : List ℕ × FieldKind → Type 0) (m : List (List ℕ × FieldKind)) (k : List ℕ) (g : FieldKind) → Each P m → P (k, g) → Each P (insert_entry bytes_eq m k g)
Each-insert P [] k g p q = (q, tt)
Each-insert P (e ∷ m) k g p q = here (bytes_eq k e.0) refl (Each-insert P m k g p.1 q)
  where
    here : (b : Bool) → bytes_eq k e.0 ≡ b → Each P (insert_entry bytes_eq m k g) → Each P (cond b ((e.0, g) ∷ m) (e ∷ insert_entry bytes_eq m k g))
    here true t r = (subst (λ i. P (i, g)) (same_name k e.0 t) q, p.1)
    here false t r = (p.0, r)

-- a name that is among fields
abbrev pub Has : List (List ℕ × FieldKind) → List ℕ → Type 0
Has m n = IsSome (lookup (bytes_eq n) m)

module _ (m : List (List ℕ × FieldKind)) (k : List ℕ) (g : FieldKind) where
  pub has_still : (n : List ℕ) → Has m n → Has (insert_entry bytes_eq m k g) n
  has_still n h = subst IsSome (sym (find-put k n g m)) (here (bytes_eq n k))
    where
      here : (b : Bool) → IsSome (cond b (Some g) (lookup (bytes_eq n) m))
      here true = refl
      here false = h

  pub has_now : Has (insert_entry bytes_eq m k g) k
  has_now = subst IsSome (sym (find-put k k g m ∙ ap (λ b. cond b (Some g) (lookup (bytes_eq k) m)) (nat_list_eq_equiv.refl k))) refl

module _ (a : memory_fields.Fields) (m : List (List ℕ × FieldKind)) where
  pub covers_by : Each (λ e. Has m e.0) (out-Fields a).named → HasNames a m
  covers_by all n none = here (lookup (bytes_eq n) (out-Fields a).named) refl
    where
      here : (r : Option FieldKind) → lookup (bytes_eq n) (out-Fields a).named ≡ r → find n (named_of a) ≡ None
      here (Some g) q =
          let (k, t, h) = lookup-Each (λ e. Has m e.0) (bytes_eq n) (out-Fields a).named g all q in
          let w : IsSome {T = FieldKind} None = subst IsSome none (subst (λ i. Has m i) (sym (same_name n k t)) h) in
          absurd (cc w)
      here None q = find-entries n (out-Fields a).named ∙ ap (option_map entry_view) q

-- what stands at a field's name, into a joined field
module _ (a : memory_fields.Fields) (n : List ℕ) (s : Entry) where
  pub into_named : (g : FieldKind) → lookup (bytes_eq n) (out-Fields a).named ≡ Some g → EntryLets (entry_view g) s → LetsInto (fields_view a) n s
  into_named g e f x h = f x ((by a n (Some (entry_view g)) (others_of a) (find-entries n (out-Fields a).named ∙ ap (option_map entry_view) e) refl x).0 h)

  pub into_unnamed : find n (named_of a) ≡ None → ((x : Option Value) → StandsBy None (others_of a) x → EntryHas s x) → LetsInto (fields_view a) n s
  into_unnamed e f x h = f x ((by a n None (others_of a) e refl x).0 h)

-- all that both let stand
module _ (a r : memory_fields.Fields) (covered : HasNames a (out-Fields r).named) (rest : OthersLet (others_of a) (others_of r)) where
  pub joined_lets : Each (λ e. LetsInto (fields_view a) e.0 (entry_view e.1)) (out-Fields r).named → (n : List ℕ) → Lets (fields_view a) (fields_view r) n
  joined_lets all n = here (lookup (bytes_eq n) (out-Fields r).named) refl
    where
      here : (o : Option FieldKind) → lookup (bytes_eq n) (out-Fields r).named ≡ o → Lets (fields_view a) (fields_view r) n
      here (Some g) q x h =
          let (k, t, f) = lookup-Each (λ e. LetsInto (fields_view a) e.0 (entry_view e.1)) (bytes_eq n) (out-Fields r).named g all q in
          let same = same_name n k t in
          (by r n (Some (entry_view g)) (others_of r) (find-entries n (out-Fields r).named ∙ ap (option_map entry_view) q) refl x).1
          (f x (subst (λ i. StandsAt (fields_view a) i x) same h))
      here None q x h =
          (by r n None (others_of r) (find-entries n (out-Fields r).named ∙ ap (option_map entry_view) q) refl x).1
          (rest x ((by a n None (others_of a) (covered n q) refl x).0 h))

-- a name that some fields have, others do too
module _ (a : memory_fields.Fields) (m m' : List (List ℕ × FieldKind)) (still : (n : List ℕ) → Has m n → Has m' n) where
  pub names_still : HasNames a m → HasNames a m'
  names_still covered n none = covered n (here (lookup (bytes_eq n) m) refl)
    where
      here : (o : Option FieldKind) → lookup (bytes_eq n) m ≡ o → lookup (bytes_eq n) m ≡ None
      here (Some g) q = let w : IsSome {T = FieldKind} None = subst IsSome none (still n (subst IsSome (sym q) refl)) in absurd (cc w)
      here None q = q

-- one step over the second fields
module _ (a b : memory_fields.Fields) (m m' : List (List ℕ × FieldKind)) (k : List ℕ) (g : FieldKind)
    (kept : (lookup (bytes_eq k) m ≡ None → ⊥) → m' ≡ m) (added : lookup (bytes_eq k) m ≡ None → AddsField a k g m m') where
  there : (h : FieldKind) → lookup (bytes_eq k) m ≡ Some h → m' ≡ m
  there h q = kept (λ none. let w : Some h ≡ None = sym q ∙ none in absurd (cc w))

  pub step_keeps : (n : List ℕ) → Has m n → Has m' n
  step_keeps n h = here (lookup (bytes_eq k) m) refl
    where
      here : (o : Option FieldKind) → lookup (bytes_eq k) m ≡ o → Has m' n
      here (Some x) q = subst (λ l. Has l n) (sym (there x q)) h
      here None q = let (j, is, left, right) = added q in subst (λ l. Has l n) (sym is) (has_still m k j n h)

  pub step_has : Has m' k
  step_has = here (lookup (bytes_eq k) m) refl
    where
      here : (o : Option FieldKind) → lookup (bytes_eq k) m ≡ o → Has m' k
      here (Some x) q = subst (λ l. Has l k) (sym (there x q)) (subst IsSome (sym q) refl)
      here None q = let (j, is, left, right) = added q in subst (λ l. Has l k) (sym is) (has_now m k j)

  pub step_holds : lookup (bytes_eq k) (out-Fields b).named ≡ Some g → HasNames a m → Each (HoldsBoth a b) m → Each (HoldsBoth a b) m'
  step_holds own covered all = here (lookup (bytes_eq k) m) refl
    where
      here : (o : Option FieldKind) → lookup (bytes_eq k) m ≡ o → Each (HoldsBoth a b) m'
      here (Some x) q = subst (Each (HoldsBoth a b)) (sym (there x q)) all
      here None q =
          let (j, is, left, right) = added q in
          subst (Each (HoldsBoth a b)) (sym is) (
          Each-insert (HoldsBoth a b) m k j all (into_unnamed a k (entry_view j) (covered k q) left, into_named b k (entry_view j) g own right)
          )
