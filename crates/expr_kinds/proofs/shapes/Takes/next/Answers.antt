use Rattle.std.proofs.Common.{sym, subst}
use Rattle.expr_kinds.specs.BuiltinRows.{NextFits, shape_kind}
use Rattle.expr_kinds.specs.declared.shapes.Takes.TheVariants as takes
use Rattle.expr_kinds.proofs.TableKinds.{all-more}
use Rattle.expr_kinds.proofs.shapes.Takes.next.Goals as goal

pub returns-in-Nothing : goal.returns-in-Nothing
returns-in-Nothing c = subst (λ t. NextFits t c.args.more c.args.more takes.Nothing) (sym c.in-Nothing.is) (λ k j ks fits rest. all-more j ks (shape_kind k c.args.more) fits rest)

pub returns-in-One : goal.returns-in-One
returns-in-One c = subst (λ t. NextFits t c.args.more c.in-One.a takes.Nothing) (sym c.in-One.is) (λ k j ks fits rest. (fits, rest))

pub returns-in-Two : goal.returns-in-Two
returns-in-Two c = subst (λ t. NextFits t c.args.more c.in-Two.a (takes.One c.in-Two.b)) (sym c.in-Two.is) (λ k j ks fits rest. (fits, rest))

pub returns-in-Three : goal.returns-in-Three
returns-in-Three c = subst (λ t. NextFits t c.args.more c.in-Three.a (takes.Two c.in-Three.b c.in-Three.c)) (sym c.in-Three.is) (λ k j ks fits rest. (fits, rest))

pub returns-in-Four : goal.returns-in-Four
returns-in-Four c = subst (λ t. NextFits t c.args.more c.in-Four.a (takes.Three c.in-Four.b c.in-Four.c c.in-Four.d)) (sym c.in-Four.is) (λ k j ks fits rest. (fits, rest))
