-- Names that lines bind, beside the context that they override.
use Rattle.std.proofs.Common.{◌≡◌, ℕ, List, [], ◌∷◌, ◌++◌, Option, Some, None, Vec, Global, true, false, bytes_eq, refl, sym, subst, ap, ◌∙◌}
use Rattle.expr_context.specs.Context.{ContextView, override}
use Rattle.expr_explain.specs.Layers.{layer_step, names_inside, with_lines}
use Rattle.expr_explain.specs.declared.layer.LineValue.{LineValue}
use Rattle.expr_explain.specs.declared.layer.Layer.{Layer, map-Layer, out-Layer, roll-Layer, roll-out-Layer, fold-roll-Layer, ind-Layer}
use denote.Ref.{Bor}

pub with_lines-last : (ls : List LineValue) (l : LineValue) (ctx : ContextView)
    → with_lines (ls ++ l ∷ []) ctx ≡ override (with_lines ls ctx) l.name.now l.value
with_lines-last [] l ctx = refl
with_lines-last (x ∷ ls) l ctx = with_lines-last ls l (override ctx x.name.now x.value)

module _ (ls : List LineValue) (l : LineValue) (ctx : ContextView) (key : List ℕ) where
  named_last : bytes_eq l.name.now key ≡ true → (with_lines (ls ++ l ∷ []) ctx).value_of key ≡ Some l.value
  named_last same = rw (with_lines-last ls l ctx, same)

  named_before : bytes_eq l.name.now key ≡ false → (with_lines (ls ++ l ∷ []) ctx).value_of key ≡ (with_lines ls ctx).value_of key
  named_before other = rw (with_lines-last ls l ctx, other)

-- from the innermost line outwards, at a line of the name and at another
module _ (all inner outer : List LineValue) (l : LineValue) (key : List ℕ)
    (passed : (ctx : ContextView) → (with_lines inner ctx).value_of key ≡ (with_lines all ctx).value_of key)
    (split : inner ≡ outer ++ l ∷ []) where
  pub line-found : bytes_eq l.name.now key ≡ true → (ctx : ContextView) → Some l.value ≡ (with_lines all ctx).value_of key
  line-found same ctx =
      sym (named_last outer l ctx key same) ∙ ap (λ ls. (with_lines ls ctx).value_of key) (sym split) ∙ passed ctx

  pub line-passed : bytes_eq l.name.now key ≡ false → (ctx : ContextView) → (with_lines outer ctx).value_of key ≡ (with_lines all ctx).value_of key
  line-passed other ctx =
      sym (named_before outer l ctx key other) ∙ ap (λ ls. (with_lines ls ctx).value_of key) (sym split) ∙ passed ctx

-- lines leave the map
map_with_lines : (ls : List LineValue) (ctx : ContextView) → (with_lines ls ctx).map ≡ ctx.map
map_with_lines [] ctx = refl
map_with_lines (l ∷ ls) ctx = map_with_lines ls (override ctx l.name.now l.value)

-- the context around a layer
abbrev pub names_around : Option (Bor Layer) → ContextView → ContextView
names_around None ctx = ctx
names_around (Some o) ctx = names_inside o.now ctx

pub names_inside-rolled : (lines : Vec LineValue Global) (outer : Option (Bor Layer)) (ctx : ContextView)
    → names_inside (roll-Layer (record { lines = lines; outer = outer })) ctx ≡ with_lines lines.items (names_around outer ctx)
names_inside-rolled lines None ctx =
    ap (λ (f : ContextView → ContextView). f ctx) (fold-roll-Layer (ContextView → ContextView) layer_step (record { lines = lines; outer = None }))
names_inside-rolled lines (Some o) ctx =
    ap (λ (f : ContextView → ContextView). f ctx) (fold-roll-Layer (ContextView → ContextView) layer_step (record { lines = lines; outer = Some o }))

pub names_inside-is : (s : Layer) (ctx : ContextView) → names_inside s ctx ≡ with_lines (out-Layer s).lines.items (names_around (out-Layer s).outer ctx)
names_inside-is s ctx = ap (λ d. names_inside d ctx) (sym (roll-out-Layer s)) ∙ names_inside-rolled (out-Layer s).lines (out-Layer s).outer ctx

-- one line more
pub names_inside-pushed : (s s' : Layer) (l : LineValue) (ctx : ContextView)
    → (out-Layer s').lines.items ≡ (out-Layer s).lines.items ++ l ∷ [] → (out-Layer s').outer ≡ (out-Layer s).outer
    → names_inside s' ctx ≡ override (names_inside s ctx) l.name.now l.value
names_inside-pushed s s' l ctx pushed same =
    names_inside-is s' ctx ∙ (λ i. with_lines (pushed i) (names_around (same i) ctx))
    ∙ with_lines-last (out-Layer s).lines.items l (names_around (out-Layer s).outer ctx)
    ∙ ap (λ c. override c l.name.now l.value) (sym (names_inside-is s ctx))

-- the layers around leave the map, if each of them does
module _ (ctx : ContextView) where
  abbrev LeavesMapAlone : Layer → Type 0
  LeavesMapAlone s = (names_inside s ctx).map ≡ ctx.map

  rolled_leaves_map : (lines : Vec LineValue Global) (outer : Option (Bor ((s : Layer) × LeavesMapAlone s)))
      → LeavesMapAlone (roll-Layer (map-Layer ((s : Layer) × LeavesMapAlone s) Layer (λ e. e.0) (record { lines = lines; outer = outer })))
  rolled_leaves_map lines None =
      ap (λ (c : ContextView). c.map) (names_inside-rolled lines None ctx) ∙ map_with_lines lines.items ctx
  rolled_leaves_map lines (Some o) =
      ap (λ (c : ContextView). c.map) (names_inside-rolled lines (Some (record { ref_ptr = o.ref_ptr; now = o.now.0 })) ctx)
      ∙ map_with_lines lines.items (names_inside o.now.0 ctx) ∙ o.now.1

  pub map_in_layers : (s : Layer) → (names_inside s ctx).map ≡ ctx.map
  map_in_layers = ind-Layer LeavesMapAlone (λ x y is. subst (λ z. LeavesMapAlone (roll-Layer z)) is (rolled_leaves_map y.lines y.outer))
