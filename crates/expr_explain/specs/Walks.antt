-- The world where a walk is.
use Rattle.expr_context.specs.Context.{ContextView}
use Rattle.expr_explain.specs.Layers.{names_inside}
use Rattle.expr_explain.specs.declared.layer.Layer.{Layer}
use Rattle.expr_explain.specs.declared.walk.Walk.{Walk}
use Rattle.expr_meaning.specs.Host.{Host}
use Rattle.expr_meaning.specs.World.{World, world_of}

module _ {H P : Type 0} (host_of : H → Host) (context_of : P → ContextView) (walk : Walk H P) where
  abbrev pub walk_host : Host
  walk_host = host_of walk.host.now

  -- the names inside a layer, and the world with them
  abbrev pub walk_names : Layer → ContextView
  walk_names layer = names_inside layer (context_of walk.provider.now)

  abbrev pub walk_world : Layer → World
  walk_world layer = world_of walk_host (walk_names layer)
