use Rattle.hg_json.proofs.Back.{graph_back}
use Rattle.hg_json.proofs.laws.written_graphs_read_back.Goals as goal

pub returns : goal.returns
returns c = graph_back
