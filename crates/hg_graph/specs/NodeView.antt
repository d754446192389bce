-- What contracts see of the parts of a graph in hand.
use Rattle.std.specs.Prelude.{map}
use Rattle.hg_ops.specs.OpView.{op_view}
use Rattle.hg_graph.specs.declared.graph.Node as declared
use Rattle.hg_graph.specs.declared.graph.Graph.TheInside.{Inside}
use Rattle.hg_graph.specs.Graph.{Node, Graph}
use Rattle.hg_graph.specs.View.{link_view}

abbrev pub node_view : declared.Node → Node
node_view node = record { op = op_view node.op; parent = node.parent.0 }

abbrev pub graph_view : Inside → Graph
graph_view g = record { nodes = map node_view g.nodes.items; links = map link_view g.links.items }
