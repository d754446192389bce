use Rattle.std.proofs.Common.{map, []}
use Rattle.hg_graph.specs.code.GraphIndex.{IsFilled}
use Rattle.hg_graph.specs.NodeView.{node_view}
use Rattle.hg_graph.proofs.filling.fill_children.Given as goal

-- the children so far are written down
abbrev pub invariant-loop-n : goal.invariant-loop-n
invariant-loop-n l = IsFilled (record { nodes = map node_view l.nodes; links = [] }) l.n l.indexes.items
