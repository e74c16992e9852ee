-- The error for a regular expression that did not build.
use Rattle.expr_error.specs.declared.error.Error.{Error}
use Rattle.expr_error.specs.declared.error.Error.TheVariants.{RegexError, MemoryError}
use Rattle.regex.specs.declared.error.Error as built
use Rattle.regex.specs.declared.error.Error.TheVariants as builder

-- out of memory is an error of its own
abbrev pub error_of : built.Error → Error
error_of (builder.Syntax error) = RegexError (builder.Syntax error)
error_of builder.CompiledTooBig = RegexError builder.CompiledTooBig
error_of builder.Internal = RegexError builder.Internal
error_of builder.OutOfMemory = MemoryError
