-- Each overload of the built-ins on values holds.
use Rattle.std.proofs.Common.{List}
use Rattle.expr_functions.specs.declared.functions.ValueCall.{ValueCall}
use Rattle.expr_functions.specs.declared.functions.ValueCall.TheVariants.{Sort, Collection, Text, Conversion, Number, Bit, Encoding, Time}
use Rattle.expr_meaning.specs.Calls.{AllowsOnValues}
use Rattle.expr_meaning.specs.Host.{Host}
use Rattle.expr_value.specs.Answers.{Answer}
use Rattle.expr_value.specs.declared.value.Value.{Value}
use Rattle.expr_schema.specs.Kinds.{Kind, Each}
use Rattle.expr_kinds.specs.Overloads.{overloads}
use Rattle.expr_kinds.specs.Typed.{host_timed}
use Rattle.expr_kinds.proofs.Held.{OverloadHolds}
use Rattle.expr_kinds.proofs.OnCollections.{collections-hold}
use Rattle.expr_kinds.proofs.OnEncodings.{encodings-hold}
use Rattle.expr_kinds.proofs.OnNumbers.{bits-hold, conversions-hold, numbers-hold}
use Rattle.expr_kinds.proofs.OnTexts.{texts-hold}
use Rattle.expr_kinds.proofs.OnTimes.{times-hold}
use Rattle.expr_kinds.proofs.Sorted.{sorts-hold}

pub overloads-hold : (host : Host) (f : ValueCall) (k : Kind) → Each (OverloadHolds (AllowsOnValues host f)) (overloads f k)
unfolding overloads
overloads-hold host Sort k = sorts-hold k
overloads-hold host (Collection c) k = collections-hold c k
overloads-hold host (Text c) k = texts-hold c
overloads-hold host (Conversion c) k = conversions-hold c
overloads-hold host (Number c) k = numbers-hold c
overloads-hold host (Bit c) k = bits-hold c
overloads-hold host (Encoding c) k = encodings-hold c
overloads-hold host (Time c) k = times-hold host.zones host.moment c

-- a built-in needs no more of a host than its time zones and its current time
pub only-time : (host : Host) (f : ValueCall) (vs : List Value) (a : Answer) → AllowsOnValues host f vs a → AllowsOnValues (host_timed host.zones host.moment) f vs a
only-time host Sort vs a p = p
only-time host (Collection c) vs a p = p
only-time host (Text c) vs a p = p
only-time host (Conversion c) vs a p = p
only-time host (Number c) vs a p = p
only-time host (Bit c) vs a p = p
only-time host (Encoding c) vs a p = p
only-time host (Time c) vs a p = p
