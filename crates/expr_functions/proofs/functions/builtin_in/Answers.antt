use Rattle.std.proofs.Common.{bytes_eq, option_map, ap, ◌∙◌}
use Rattle.expr_functions.proofs.Among.{beside_key}
use Rattle.expr_functions.proofs.functions.builtin_in.Goals as goal

pub returns : goal.returns
returns c =
    c.beside.ensures ∙ ap (option_map (λ line. line.1)) c.line_of.ensures ∙ beside_key (λ word. bytes_eq c.args.name.now word.now) c.args.lines.now
