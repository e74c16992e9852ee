use Rattle.std.proofs.Common.{◌≡◌, ℕ, ◌+◌, ◌*◌, ◌≤◌, ◌++◌, length, Some}
use Rattle.json.specs.Json.{items, members, parse_map, value}
use Rattle.serde_json.specs.Data.{Members, no_members}
use Rattle.serde_json.specs.Read.{converted, of_items, of_members}
use Rattle.expr_encoding.specs.Reading.{pairs_of, values_of}
use Rattle.expr_encoding.specs.Tokens.{first_values, lent_pairs}
use Rattle.expr_encoding.proofs.tokens.+tokens.Given as goal

abbrev pub decreases-read_value : goal.decreases-read_value
decreases-read_value l = 2 * l.levels

abbrev pub decreases-read_items : goal.decreases-read_items
decreases-read_items l = 2 * l.levels + 1

abbrev pub decreases-read_members : goal.decreases-read_members
decreases-read_members l = 2 * l.levels + 1

abbrev pub invariant-read_items-items : goal.invariant-read_items-items
invariant-read_items-items l =
    (n : ℕ) × (length l.reader ≤ n)
    × (first_values l.levels l.initial.reader ≡ parse_map (λ vs. l.found.items ++ vs) (converted values_of (converted of_items (items (value l.levels) n l.reader))))
    × (length l.reader ≤ length l.initial.reader)

abbrev pub decreases-read_items-items : goal.decreases-read_items-items
decreases-read_items-items l = length l.reader

abbrev pub invariant-read_members-members : goal.invariant-read_members-members
invariant-read_members-members l =
    (n : ℕ) × (length l.reader ≤ n) × (old : Members) × (pairs_of old ≡ Some (lent_pairs l.found.entries))
    × (converted (λ ms. of_members ms no_members) (members (value l.levels) (length l.initial.reader) l.initial.reader) ≡ converted (λ ms. of_members ms old) (members (value l.levels) n l.reader))
    × (length l.reader ≤ length l.initial.reader)

abbrev pub decreases-read_members-members : goal.decreases-read_members-members
decreases-read_members-members l = length l.reader
