-- The values of names inside a layer: those of the provider, with the bindings of the layer and of those around it.
use Rattle.std.specs.Prelude.{List, [], ◌∷◌, Option, Some, None}
use denote.Ref.{Bor}
use Rattle.expr_context.specs.Context.{ContextView, override}
use Rattle.expr_explain.specs.declared.layer.LineValue.{LineValue}
use Rattle.expr_explain.specs.declared.layer.Layer.{Layer, fold-Layer}
use Rattle.expr_explain.specs.declared.layer.Layer.TheOpen.{Layer-F}

-- the context with the values of lines, of which the last is the innermost
abbrev pub with_lines : List LineValue → ContextView → ContextView
with_lines [] ctx = ctx
with_lines (l ∷ ls) ctx = with_lines ls (override ctx l.name.now l.value)

-- the names of a layer are inside those around it
abbrev pub in_layer_around : Option (Bor (ContextView → ContextView)) → ContextView → ContextView
in_layer_around None ctx = ctx
in_layer_around (Some outer) ctx = outer.now ctx

abbrev pub layer_step : Layer-F (ContextView → ContextView) → ContextView → ContextView
layer_step l ctx = with_lines l.lines.items (in_layer_around l.outer ctx)

-- the context inside a layer
abbrev pub names_inside : Layer → ContextView → ContextView
names_inside = fold-Layer (ContextView → ContextView) layer_step
