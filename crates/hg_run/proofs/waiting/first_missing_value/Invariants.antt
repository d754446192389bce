use Rattle.std.proofs.Common.{◌-◌}
use Rattle.hg_graph.specs.Run.{outs_at}
use Rattle.hg_run.specs.code.Waits.{HaveCome, value_came}
use Rattle.hg_run.proofs.waiting.first_missing_value.Given as goal

abbrev pub invariant-loop-index : goal.invariant-loop-index
invariant-loop-index l = HaveCome (value_came l.graph (outs_at l.fired) l.node.0) l.index

abbrev pub decreases-loop-index : goal.decreases-loop-index
decreases-loop-index l = l.count - l.index
