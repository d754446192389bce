use Rattle.std.proofs.Common.{◌≡◌, ◌<◌, ◌^◌, ◌-◌, length}
use Rattle.hg_run.proofs.counted_set.room_for.Given as goal

abbrev pub invariant-loop-width : goal.invariant-loop-width
invariant-loop-width l = (l.width ≡ 2 ^ l.depth) × (l.depth < l.width)

abbrev pub decreases-loop-width : goal.decreases-loop-width
decreases-loop-width l = length l.flags - l.width
