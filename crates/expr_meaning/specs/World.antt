-- A host and a context.
use Rattle.std.specs.Prelude.{ℕ, List}
use Rattle.expr_meaning.specs.Host.{Host}
use Rattle.expr_context.specs.Told.{PredicateArgsView}
use Rattle.expr_context.specs.Context.{ContextView, override}
use Rattle.expr_context.specs.Lookups.{predicate_context}
use Rattle.expr_value.specs.declared.value.Value.{Value}

-- where a program runs: the host's additions, and the values of names
pub record World : Type 1 where
  pub host : Host
  pub context : ContextView

-- this host and this context
abbrev pub world_of : Host → ContextView → World
world_of host ctx = record { host = host; context = ctx }

-- the same host with another context
abbrev pub with_context : World → ContextView → World
with_context world ctx = record { host = world.host; context = ctx }

-- this world with a name bound to a value
abbrev pub where_bound : World → List ℕ → Value → World
where_bound world key v = with_context world (override world.context key v)

-- this world with what a predicate gets for one item
abbrev pub where_asked : World → PredicateArgsView → World
where_asked world q = with_context world (predicate_context world.context q)
