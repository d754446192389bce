use Rattle.std.proofs.Common.{◌≤◌, ◌-◌, length}
use Rattle.hg_run.proofs.Elsewhere.{AreBelow, AreAbove}
use Rattle.hg_run.proofs.due.place_among.Given as goal

abbrev pub invariant-loop-low : goal.invariant-loop-low
invariant-loop-low l = (l.high ≤ length l.nodes) × AreBelow l.graph l.fn.container.0 l.node.0 l.low × AreAbove l.graph l.fn.container.0 l.node.0 l.high

abbrev pub decreases-loop-low : goal.decreases-loop-low
decreases-loop-low l = l.high - l.low
