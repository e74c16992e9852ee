-- What a schema says: the scope of the programs for its hosts.
use Rattle.std.specs.Prelude.{map, option_map}
use Rattle.expr_value.specs.Names.{find}
use Rattle.expr_schema.specs.KindView.{fields_view, kind_view}
use Rattle.expr_schema.specs.Kinds as def
use Rattle.expr_schema.specs.Scopes.{Scope, Signature as HostFunction}
use Rattle.expr_schema.specs.declared.schema.Effect.{Effect}
use Rattle.expr_schema.specs.declared.schema.Effect.TheVariants.{Total, Matching, Failing}
use Rattle.expr_schema.specs.declared.schema.Schema.{Schema}
use Rattle.expr_schema.specs.declared.schema.Signature.{Signature}

abbrev pub effect_of : Effect → def.Effect
effect_of Total = def.total
effect_of Matching = def.matching
effect_of Failing = def.failing

abbrev pub signature_of : Signature → HostFunction
signature_of s = record { arguments = map kind_view s.arguments; gives = kind_view s.gives; effect = effect_of s.effect }

-- `$env` holds what the names stand for
abbrev pub scope_of : Schema → Scope
scope_of s = record { environment = fields_view s.names; names = fields_view s.names; functions = λ key. option_map signature_of (find key s.functions) }
