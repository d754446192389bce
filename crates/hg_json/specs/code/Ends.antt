-- What contracts see of the ends of links.
use Rattle.std.specs.Prelude.{ℕ}
use Rattle.hg_graph.specs.View.{port_view}
use Rattle.hg_json.specs.declared.links.End as declared
use Rattle.hg_json.specs.declared.links.End.TheVariants as the_end
use Rattle.hg_json.specs.Reading.{End, AtPort, AtNode}

-- the end that a value stands for
abbrev pub end_view : declared.End → End
end_view (the_end.Port port) = AtPort (port_view port)
end_view (the_end.Node node) = AtNode node.0

-- the node at which an end is
abbrev pub node_of_end : End → ℕ
node_of_end (AtPort port) = port.node
node_of_end (AtNode node) = node
