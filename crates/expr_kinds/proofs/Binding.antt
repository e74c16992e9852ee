-- Where a name is bound to a value of a kind, the scope with that kind at the name holds.
use Rattle.std.proofs.Common.{ℕ, List, bytes_eq}
use Rattle.expr_context.specs.Context.{ContextView, override}
use Rattle.expr_meaning.specs.Host.{Host}
use Rattle.expr_value.specs.declared.value.Value.{Value}
use Rattle.expr_schema.specs.Kinds.{Kind, HasKind}
use Rattle.expr_schema.specs.Scopes.{Scope, Conforms}
use Rattle.expr_kinds.specs.Scopes.{Hosts, bind_kind}
use Rattle.expr_kinds.proofs.Standing.{at_override}

pub Conforms-bind : (k : Kind) (key : List ℕ) (v : Value) → HasKind k v → (s : Scope) (ctx : ContextView) → Conforms s ctx → Conforms (bind_kind key k s) (override ctx key v)
Conforms-bind k key v h s ctx c = record { environment = c.environment; names = λ n. at_override k v h (bytes_eq key n) s.names n (ctx.value_of n) (c.names n) }

pub Hosts-bind : (k : Kind) (key : List ℕ) (s : Scope) (host : Host) → Hosts s host → Hosts (bind_kind key k s) host
Hosts-bind k key s host h = record { added = h.added; calls = h.calls }
