use Rattle.expr_tokens.proofs.Lexing.{lex_reads, reads_lex}
use Rattle.expr_tokens.proofs.laws.lexer_gives_the_reading.Goals as goal

pub returns : goal.returns
returns c = λ text tokens. (lex_reads text tokens, reads_lex text tokens)
