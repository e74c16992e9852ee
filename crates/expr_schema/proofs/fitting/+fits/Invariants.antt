use Rattle.std.proofs.Common.{take}
use Rattle.expr_schema.specs.Kinds.{Each}
use Rattle.expr_schema.specs.declared.kind.Fields.{out-Fields}
use Rattle.expr_schema.proofs.Lettings.{EntryFits, UnnamedFits}
use Rattle.expr_schema.proofs.fitting.+fits.Given as goal

abbrev pub invariant-named_fit-loop-i : goal.invariant-named_fit-loop-i
invariant-named_fit-loop-i l = Each (EntryFits l.b) (take l.i (out-Fields l.a).named)

abbrev pub invariant-unnamed_fit-loop-i : goal.invariant-unnamed_fit-loop-i
invariant-unnamed_fit-loop-i l = Each (UnnamedFits l.a) (take l.i (out-Fields l.b).named)
