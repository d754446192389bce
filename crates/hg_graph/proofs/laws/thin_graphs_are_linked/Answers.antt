use Rattle.hg_graph.proofs.ThinLinked
use Rattle.hg_graph.proofs.laws.thin_graphs_are_linked.Goals as goal

pub returns : goal.returns
returns c = ThinLinked.thin_graphs_are_linked
