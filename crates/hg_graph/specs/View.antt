-- What contracts see of ports and links.
use Rattle.std.specs.Prelude.{ℕ}
use Rattle.hg_graph.specs.declared.link.NodeId.{NodeId}
use Rattle.hg_graph.specs.declared.link.Port as declared
use Rattle.hg_graph.specs.declared.link.Link as declared_link
use Rattle.hg_graph.specs.declared.link.Link.TheVariants as link
use Rattle.hg_graph.specs.Graph.{Port, Link, Ports, Order}

-- a node's number
abbrev pub number_of : NodeId → ℕ
number_of node = node.0

abbrev pub port_view : declared.Port → Port
port_view port = record { node = port.node.0; index = port.index }

abbrev pub link_view : declared_link.Link → Link
link_view (link.Ports from to) = Ports (port_view from) (port_view to)
link_view (link.Order before after) = Order before.0 after.0
