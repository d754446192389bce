use Rattle.std.proofs.Common.{◌≡◌, ◌≤◌, length, map, take}
use Rattle.std.specs.Prelude.{filter}
use Rattle.hg_ops.specs.Op.{fires}
use Rattle.hg_graph.specs.Graph.{op_at}
use Rattle.hg_graph.specs.View.{number_of}
use Rattle.hg_run.proofs.reads.firing_count.Given as goal

abbrev pub invariant-loop-k : goal.invariant-loop-k
invariant-loop-k l = (l.count ≡ length (filter (λ n. fires (op_at l.graph n)) (map number_of (take l.k l.nodes)))) × (l.count ≤ l.k)
