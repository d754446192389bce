-- What contracts see of what is kept of a node.
use Rattle.std.specs.Prelude.{map}
use Rattle.hg_graph.specs.declared.node_index.NodeIndex.TheInside.{Inside}
use Rattle.hg_graph.specs.NodeIndex.{NodeIndex}
use Rattle.hg_graph.specs.View.{number_of, link_view}

abbrev pub node_index_view : Inside → NodeIndex
node_index_view i = record {
  children = map number_of i.children.items;
  inputs = i.inputs.items;
  outputs = i.outputs.items;
  before = i.before;
  after = i.after;
  strays = map link_view i.strays.items;
}
