use Rattle.std.proofs.Common.{[], map, string_bytes, drop, Result}
use Rattle.expr.specs.Contexts.{NamedValues}
use Rattle.expr_program.specs.Served.{MayBind}
use Rattle.expr_error.specs.ErrorKind.{ErrorKind}
use Rattle.expr_program.proofs.serve.context_of.Given as goal

-- what the rest may give after these names, the whole may give
abbrev pub invariant-loop-word : goal.invariant-loop-word
invariant-loop-word l =
    (given : Result NamedValues ErrorKind) → MayBind (map string_bytes (drop l.word-index l.bindings)) l.context given → MayBind (map string_bytes l.bindings) [] given
