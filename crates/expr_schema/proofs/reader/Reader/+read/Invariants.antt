use Rattle.std.proofs.Common.{◌+◌, ◌*◌}
use Rattle.expr_schema.proofs.reader.Reader.+read.Given as goal

abbrev pub decreases-fields : goal.decreases-fields
decreases-fields l = 7 * l.depth + 6

abbrev pub decreases-entry : goal.decreases-entry
decreases-entry l = 7 * l.depth + 5

abbrev pub decreases-kind_of_others : goal.decreases-kind_of_others
decreases-kind_of_others l = 7 * l.depth + 4

abbrev pub decreases-kind : goal.decreases-kind
decreases-kind l = 7 * l.depth + 3

abbrev pub decreases-base : goal.decreases-base
decreases-base l = 7 * l.depth + 2

abbrev pub decreases-array : goal.decreases-array
decreases-array l = 7 * l.depth + 8

abbrev pub decreases-map : goal.decreases-map
decreases-map l = 7 * l.depth + 8
