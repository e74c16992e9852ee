use Rattle.std.proofs.Common.{sym, ap, ◌∙◌}
use Rattle.expr_tree.proofs.Shapes.{term_of-Array, term_of-Conditional, term_of-Func, term_of-Ident, term_of-Map, term_of-Operation, term_of-Postfix, term_of-Range, term_of-Unary, term_of-Value}
use Rattle.expr_tree.specs.TermOf.{term_of}
use Rattle.expr_kinds.specs.Typed.{literal_of}
use Rattle.expr_kinds.proofs.known_literals.literal_value.Goals as goal

pub returns-in-Value : goal.returns-in-Value
returns-in-Value c = sym (ap literal_of (ap term_of c.in-Value.is ∙ term_of-Value c.in-Value.value))

pub returns-in-Ident : goal.returns-in-Ident
returns-in-Ident c = sym (ap literal_of (ap term_of c.in-Ident.is ∙ term_of-Ident c.in-Ident.field-0))

pub returns-in-Array : goal.returns-in-Array
returns-in-Array c = sym (ap literal_of (ap term_of c.in-Array.is ∙ term_of-Array c.in-Array.field-0))

pub returns-in-Map : goal.returns-in-Map
returns-in-Map c = sym (ap literal_of (ap term_of c.in-Map.is ∙ term_of-Map c.in-Map.field-0))

pub returns-in-Range : goal.returns-in-Range
returns-in-Range c = sym (ap literal_of (ap term_of c.in-Range.is ∙ term_of-Range c.in-Range.field-0 c.in-Range.field-1))

pub returns-in-Func : goal.returns-in-Func
returns-in-Func c = sym (ap literal_of (ap term_of c.in-Func.is ∙ term_of-Func c.in-Func.ident c.in-Func.args c.in-Func.predicate))

pub returns-in-Unary : goal.returns-in-Unary
returns-in-Unary c = sym (ap literal_of (ap term_of c.in-Unary.is ∙ term_of-Unary c.in-Unary.operator c.in-Unary.node))

pub returns-in-Operation : goal.returns-in-Operation
returns-in-Operation c = sym (ap literal_of (ap term_of c.in-Operation.is ∙ term_of-Operation c.in-Operation.operator c.in-Operation.left c.in-Operation.right c.in-Operation.compiled_regex))

pub returns-in-Postfix : goal.returns-in-Postfix
returns-in-Postfix c = sym (ap literal_of (ap term_of c.in-Postfix.is ∙ term_of-Postfix c.in-Postfix.operator c.in-Postfix.node))

pub returns-in-Conditional : goal.returns-in-Conditional
returns-in-Conditional c = sym (ap literal_of (ap term_of c.in-Conditional.is ∙ term_of-Conditional c.in-Conditional.condition c.in-Conditional.consequent c.in-Conditional.alternative))
