use Rattle.std.proofs.Common.{◌≡◌, ◌+◌, ◌-◌, ◌*◌}
use Rattle.hg_json.specs.Steps.{separated}
use Rattle.hg_json.specs.TypeText.{bar, comma, type_at, row_from}
use Rattle.hg_json.proofs.Separated.{with_entries}
use Rattle.hg_json.proofs.type_reading.+types.Given as goal

abbrev pub decreases-type_at : goal.decreases-type_at
decreases-type_at l = 6 * l.depth

abbrev pub decreases-some_types : goal.decreases-some_types
decreases-some_types l = 6 * l.depth + 1

abbrev pub decreases-row : goal.decreases-row
decreases-row l = 6 * l.depth + 2

abbrev pub decreases-rows : goal.decreases-rows
decreases-rows l = 6 * l.depth + 3

abbrev pub decreases-function : goal.decreases-function
decreases-function l = 6 * l.depth + 3

abbrev pub decreases-sum : goal.decreases-sum
decreases-sum l = 6 * l.depth + 4

abbrev pub decreases-bracketed : goal.decreases-bracketed
decreases-bracketed l = 6 * l.depth + 5

-- the entries so far, and those that are left
abbrev pub invariant-some_types-loop-turn : goal.invariant-some_types-loop-turn
invariant-some_types-loop-turn l =
    with_entries l.found (separated (type_at l.profile l.depth) comma (l._turn-end - l._turn) l.rest) ≡ separated (type_at l.profile l.depth) comma l._turn-end l.fn.bytes

abbrev pub invariant-rows-loop-turn : goal.invariant-rows-loop-turn
invariant-rows-loop-turn l =
    with_entries l.found (separated (row_from l.profile (type_at l.profile l.depth)) bar (l._turn-end - l._turn) l.rest)
    ≡ separated (row_from l.profile (type_at l.profile l.depth)) bar l._turn-end l.fn.bytes
