-- Contexts that keep to a schema.
use Rattle.std.proofs.Common.{◌≡◌, ℕ, Bool, true, false, List, [], ◌∷◌, ◌++◌, map as each, Bor, Option, Some, None, option_map, MatchOption, bytes_eq, refl, sym, subst, ap, ◌∙◌}
use Rattle.std.specs.Map.{lookup}
use Rattle.expr_context.specs.Contexts.{context_of}
use Rattle.expr_value.specs.Names.{find}
use Rattle.expr_value.specs.declared.value.Value.{Value}
use Rattle.expr_schema.specs.Kinds.{Each, Fields, Found, HasKind, Present, StandsAt}
use Rattle.expr_schema.specs.KindView.{fields_view, others_of, entry_view}
use Rattle.expr_schema.specs.SchemaView.{scope_of}
use Rattle.expr_schema.specs.Scopes.{AllStand, Conforms, MissingStand, ValueStands, ValuesStand}
use Rattle.expr_schema.specs.declared.schema.Schema.{Schema}
use Rattle.expr_schema.specs.declared.kind.Fields as memory_fields
use Rattle.expr_schema.specs.declared.kind.Fields.{out-Fields}
use Rattle.expr_schema.specs.declared.kind.FieldKind.{FieldKind}
use Rattle.expr_schema.proofs.Lists.{Each-weaker, lookup-Each}
use Rattle.expr_schema.proofs.Shapes.{entry_view-required}
use Rattle.expr_schema.proofs.Standing.{Given, by, find-entries, required_stand, same_name}

module _ (F : Fields) (m : List (List ℕ × Value)) where
  pub stands : ValuesStand F m → MissingStand F m → AllStand F m
  stands vs ms n = here (find n m) refl
    where
      here : (x : Option Value) → find n m ≡ x → StandsAt F n (find n m)
      here (Some v) e = subst (λ y. StandsAt F n y) (sym e) (vs n v e)
      here None e = subst (λ y. StandsAt F n y) (sym e) (ms n e)

  -- the value of a pair's name may stand there
  abbrev pub Checked : List ℕ × Value → Type 0
  Checked e = ValueStands F m e.0

  pub each_checked : Each Checked m → ValuesStand F m
  each_checked all n v e =
      let (k, t, h) = lookup-Each Checked (bytes_eq n) m v all e in
      let same : n ≡ k = same_name n k t in
      subst (λ i. StandsAt F i (Some v)) (sym same) (h v (ap (λ i. find i m) (sym same) ∙ e))

module _ (f : memory_fields.Fields) (m : List (List ℕ × Value)) where
  -- a value has to stand at the name of a field and does
  abbrev pub Supplied : List ℕ × FieldKind → Type 0
  Supplied e = Present (entry_view e.1).required (find e.0 m)

  pub supplied_stand : Each Supplied (out-Fields f).named → MissingStand (fields_view f) m
  supplied_stand all = required_stand f m (Each-weaker Supplied (Given f m) (λ e h. subst (λ b. Present b (find e.0 m)) (entry_view-required e.1) h) (out-Fields f).named all)

  found_present : (b : Bool) (P : Value → Type 0) (x : Option Value) → Found b P x → Present b x
  found_present true P (Some v) h = tt
  found_present true P None h = h
  found_present false P x h = tt

  pub supplied : (k : List ℕ) (g : FieldKind) → lookup (bytes_eq k) (out-Fields f).named ≡ Some g → StandsAt (fields_view f) k (find k m) → Present (entry_view g).required (find k m)
  supplied k g e h =
      found_present (entry_view g).required (λ v. HasKind (entry_view g).kind v) (find k m)
      ((by f k (Some (entry_view g)) (others_of f) (find-entries k (out-Fields f).named ∙ ap (option_map entry_view) e) refl (find k m)).0 h)

pub conforms : (s : Schema) (m : List (List ℕ × Value)) → AllStand (fields_view s.names) m → Conforms (scope_of s) (context_of m)
conforms s m h = record { environment = h; names = h }

-- pairs that were met so far
abbrev pub seen : Bor (List ℕ) × Bor Value → List ℕ × Value
seen p = (p.0.now, p.1.now)

pub seen_more : (P : List ℕ × Value → Type 0) (ps : List (Bor (List ℕ) × Bor Value)) (p : Bor (List ℕ) × Bor Value) → Each P (each seen ps) → P (seen p) → Each P (each seen (ps ++ p ∷ []))
seen_more P [] p h q = (q, tt)
seen_more P (x ∷ ps) p h q = (h.0, seen_more P ps p h.1 q)

-- the same where nothing is found
pub either : {T : Type 0} (r : Option T) (A B : Type 0) (Q : T → Type 0) → (A → B) → MatchOption r A Q → MatchOption r B Q
either None A B Q f h = f h
either (Some x) A B Q f h = h
