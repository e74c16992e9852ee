-- The text of some programs, as the definitions compute it.
use Rattle.std.proofs.Common.{◌≡◌, codes, refl}
use Rattle.expr_tree.specs.Term.{name, call, unary, operation, postfix, slice, pipe, ternary, bound, unbounded, no_terms, term, predicate, no_predicate, answers, line}
use Rattle.expr_functions.specs.declared.operator.Operator.TheVariants as operator
use Rattle.expr_functions.specs.declared.operator.UnaryOperator.TheVariants as prefixed
use Rattle.expr_text.specs.Layout.{program_text}

-- brackets where they are needed
product_of_sum : program_text (answers (operation operator.Multiply (operation operator.Add (name (codes "a")) (name (codes "b"))) (name (codes "a")))) ≡ codes "(a + b) * a"
product_of_sum = refl

to_the_left : program_text (answers (operation operator.Subtract (operation operator.Subtract (name (codes "a")) (name (codes "b"))) (name (codes "a")))) ≡ codes "a - b - a"
to_the_left = refl

to_the_right : program_text (answers (operation operator.Subtract (name (codes "a")) (operation operator.Subtract (name (codes "b")) (name (codes "a"))))) ≡ codes "a - (b - a)"
to_the_right = refl

-- `not` goes inside `^`, and stands in brackets only where something follows that it would capture
prefix_inside : program_text (answers (operation operator.Pow (name (codes "a")) (unary prefixed.Not (name (codes "b"))))) ≡ codes "a ^ not b"
prefix_inside = refl

prefix_followed : program_text (answers (operation operator.Multiply (operation operator.Pow (name (codes "a")) (unary prefixed.Not (name (codes "b")))) (name (codes "a")))) ≡ codes "a ^ (not b) * a"
prefix_followed = refl

-- pipes and ternaries
pipe_within : program_text (answers (operation operator.Add (name (codes "a")) (operation operator.Multiply (postfix (pipe (call (codes "f") no_terms no_predicate)) (name (codes "b"))) (name (codes "a"))))) ≡ codes "a + (b | f()) * a"
pipe_within = refl

slice_of_ternary : program_text (answers (postfix (slice (bound (postfix (ternary (name (codes "a")) (name (codes "b"))) (name (codes "c")))) unbounded) (name (codes "d")))) ≡ codes "d[c ? a : b :]"
slice_of_ternary = refl

-- predicates
promoted : program_text (answers (call (codes "filter") (term (name (codes "a")) no_terms) (predicate (line (codes "x") (name (codes "#")) (answers (operation operator.GreaterThan (name (codes "x")) (name (codes "b")))))))) ≡ codes "filter(a, {let x = #;\nx > b})"
promoted = refl
