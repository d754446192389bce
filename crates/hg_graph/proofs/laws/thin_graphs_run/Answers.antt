use Rattle.hg_graph.proofs.ThinRuns
use Rattle.hg_graph.proofs.laws.thin_graphs_run.Goals as goal

pub returns : goal.returns
returns c = ThinRuns.thin_graphs_run
