-- The source of a link that may be missing.
use Rattle.std.specs.Prelude.{Option, Some, None}
use Rattle.hg_graph.specs.Graph.{Link, Ports, Order, Port}

abbrev pub source_of : Option Link → Option Port
source_of None = None
source_of (Some (Ports a b)) = Some a
source_of (Some (Order a b)) = None
