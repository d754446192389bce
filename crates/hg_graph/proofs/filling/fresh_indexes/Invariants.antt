use Rattle.std.proofs.Common.{◌≡◌, ◌++◌, drop, map}
use Rattle.hg_ops.specs.OpView.{op_view}
use Rattle.hg_graph.specs.NodeIndex.{fresh_index}
use Rattle.hg_graph.proofs.filling.fresh_indexes.Given as goal

-- those so far, and those that are left
abbrev pub invariant-loop-node : goal.invariant-loop-node
invariant-loop-node l =
    l.indexes.items ++ map (λ node. fresh_index (op_view node.op)) (drop l.node-index l.nodes) ≡ map (λ node. fresh_index (op_view node.op)) l.nodes
