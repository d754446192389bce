use Rattle.std.proofs.Common.{◌≡◌, ◌<◌, ◌≤◌, ◌^◌, length}
use Rattle.hg_run.specs.code.CountedSetView.{AreSumsBut}
use Rattle.hg_run.proofs.counted_set.CountedSet.put.Given as goal

-- all counts are right, but maybe the next
abbrev pub invariant-loop-at : goal.invariant-loop-at
invariant-loop-at l =
    (length l.self-inside.counts.items ≡ 2 ^ l.self-inside.depth) × (length l.self-inside.flags.items ≤ length l.self-inside.counts.items) × (l.at < length l.self-inside.counts.items)
    × AreSumsBut l.self-inside.flags.items l.self-inside.counts.items l.at × (l.self-inside.flags.items ≡ l.initial.self-inside.flags.items)

abbrev pub decreases-loop-at : goal.decreases-loop-at
decreases-loop-at l = l.at
