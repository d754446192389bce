-- What a graph in hand keeps beside its lists.
use Rattle.hg_graph.specs.declared.graph.Graph.TheInside.{Inside}
use Rattle.hg_graph.specs.NodeView.{graph_view}
use Rattle.hg_graph.specs.code.GraphIndex.{IsIndexed}

-- what is kept beside the lists fits them
abbrev pub IsInStep : Inside → Type 0
IsInStep g = IsIndexed (graph_view g) g.indexes.items
