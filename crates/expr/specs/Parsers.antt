-- What a parser holds.
use Rattle.expr.specs.declared.environment.Environment.{Environment}
use Rattle.expr.specs.declared.parser.Parser.{Parser}

-- the environment of a parser
abbrev pub environment_of : {x f g : _} → Parser x f g → Environment x f g
environment_of parser = parser.environment
