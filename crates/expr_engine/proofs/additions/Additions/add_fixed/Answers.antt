use Rattle.std.proofs.Common.{◌∙◌, subst, w64}
use Rattle.std.proofs.lemmas.Int.{to_z-of_z}
use Rattle.expr_engine.specs.Adding.{GainsZone}
use Rattle.expr_engine.proofs.Told.{then_so}
use Rattle.expr_engine.proofs.additions.Additions.add_fixed.Goals as goal

pub returns-in-Some-clause-added : goal.returns-in-Some-clause-added
returns-in-Some-clause-added c = then_so c.add.result c.add.ensures.added (λ gains. record {
  offset = c.in-Some.offset;
  seconds = c.in-Some.ensures ∙ to_z-of_z w64 c.args.seconds c.ranges.seconds;
  zone = subst (λ rules. GainsZone c.args.name.now rules c.args.self.now c.add.new.self) c.fixed.ensures gains;
})
