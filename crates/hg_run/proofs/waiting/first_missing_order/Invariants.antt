use Rattle.std.proofs.Common.{◌-◌, length}
use Rattle.hg_graph.specs.Run.{outs_at}
use Rattle.hg_run.specs.code.Waits.{HaveCome, order_came}
use Rattle.hg_run.proofs.waiting.first_missing_order.Given as goal

abbrev pub invariant-loop-k : goal.invariant-loop-k
invariant-loop-k l = HaveCome (order_came l.graph (outs_at l.fired) l.node.0) l.k

abbrev pub decreases-loop-k : goal.decreases-loop-k
decreases-loop-k l = length l.numbers - l.k
