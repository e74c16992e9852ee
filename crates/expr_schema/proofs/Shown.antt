-- The text of fields, one entry more at a time.
use Rattle.std.proofs.Common.{◌≡◌, ◌==◌, ◌+◌, ◌<◌, ℕ, List, [], ◌∷◌, ◌++◌, map as each, length, take, get_or, codes, Option, Some, None, option_map, refl, sym, ap, ◌∙◌, arith, if◌then◌else◌}
use Rattle.std.proofs.lemmas.List.{append-nil, length-append, map-id, length-map, take-append-le, take_all}
use Rattle.expr_value.proofs.Joined.{joined_next}
use Rattle.expr_value.specs.Values.{joined_text}
use Rattle.expr_schema.specs.Kinds.{Kind}
use Rattle.expr_schema.specs.KindView.{fields_from, fields_view, kind_view, entry_view, others_of}
use Rattle.expr_schema.specs.Texts.{shown_colon, shown_entries, shown_fields, shown_kind, shown_name, unless_any}
use Rattle.expr_schema.specs.declared.kind.Kind as memory
use Rattle.expr_schema.specs.declared.kind.Fields as memory_fields
use Rattle.expr_schema.specs.declared.kind.Fields.{out-Fields}
use Rattle.expr_schema.specs.declared.kind.FieldKind.{FieldKind}
use Rattle.expr_schema.proofs.Shapes.{fields_view-parts}
use Rattle.expr_schema.proofs.Standing.{entries}

-- what is between entries, before one that has so many before it
abbrev pub comma_at : ℕ → List ℕ
comma_at n = if n == 0 then [] else codes ", "

-- a name with what stands there
abbrev pub shown_field : List ℕ × FieldKind → List ℕ
shown_field e = shown_name e.0 ++ shown_colon (entry_view e.1).required ++ shown_kind (entry_view e.1).kind

-- what stands at the other names
abbrev pub shown_rest : Kind → List ℕ
shown_rest kind = codes "..." ++ unless_any kind (codes ": " ++ shown_kind kind)

abbrev rest_texts : Option Kind → List (List ℕ)
rest_texts None = []
rest_texts (Some kind) = shown_rest kind ∷ []

shown_from : (es : List (List ℕ × FieldKind)) (o : Option Kind) → shown_entries (fields_from (entries es) o) ≡ each shown_field es ++ rest_texts o
shown_from [] None = refl
shown_from [] (Some kind) = refl
shown_from (e ∷ es) o = ap (λ l. shown_field e ∷ l) (shown_from es o)

-- the text after one more
pushed : (ts : List (List ℕ)) (t : List ℕ) → (joined_text (codes ", ") ts ++ comma_at (length ts)) ++ t ≡ joined_text (codes ", ") (ts ++ t ∷ [])
pushed ts t =
    let all = ts ++ t ∷ [] in
    let few : take (length ts) all ≡ ts = take-append-le (length ts) ts (t ∷ []) (omega arith) ∙ take_all (length ts) ts (omega arith) in
    let long : length all ≡ length ts + 1 = length-append ts (t ∷ []) in
    let whole : take (length ts + 1) all ≡ all = take_all (length ts + 1) all (omega (arith, long)) in
    let within : length ts < length all = omega (arith, long) in
    ap (λ l. (joined_text (codes ", ") l ++ comma_at (length ts)) ++ t) (sym (map-id (take (length ts) all) ∙ few))
    ∙ joined_next (λ u. u) [] (codes ", ") all (length ts) t within (sym (last_read ts)) ∙ ap (joined_text (codes ", ")) (map-id (take (length ts + 1) all) ∙ whole)
  where
    last_read : (us : List (List ℕ)) → get_or (us ++ t ∷ []) (length us) t ≡ t
    last_read [] = refl
    last_read (u ∷ us) = last_read us

module _ (f : memory_fields.Fields) where
  parts : (o : Option Kind) → others_of f ≡ o → shown_entries (fields_view f) ≡ each shown_field (out-Fields f).named ++ rest_texts o
  parts o e = ap shown_entries (fields_view-parts f) ∙ shown_from (out-Fields f).named (others_of f) ∙ ap (λ p. each shown_field (out-Fields f).named ++ rest_texts p) e

  pub shown_closed : (out-Fields f).others ≡ None → joined_text (codes ", ") (each shown_field (out-Fields f).named) ≡ shown_fields (fields_view f)
  shown_closed e = ap (joined_text (codes ", ")) (sym (append-nil (each shown_field (out-Fields f).named)) ∙ sym (parts None (ap (option_map kind_view) e)))

  pub shown_open : (k : memory.Kind) → (out-Fields f).others ≡ Some k → (n : ℕ) → n ≡ length (out-Fields f).named
      → (joined_text (codes ", ") (each shown_field (out-Fields f).named) ++ comma_at n) ++ shown_rest (kind_view k) ≡ shown_fields (fields_view f)
  shown_open k e n many =
      let ts = each shown_field (out-Fields f).named in
      ap (λ m. (joined_text (codes ", ") ts ++ comma_at m) ++ shown_rest (kind_view k)) (many ∙ sym (length-map (out-Fields f).named shown_field))
      ∙ pushed ts (shown_rest (kind_view k)) ∙ ap (joined_text (codes ", ")) (sym (parts (Some (kind_view k)) (ap (option_map kind_view) e)))
