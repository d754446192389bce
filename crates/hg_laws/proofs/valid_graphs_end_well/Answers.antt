use Rattle.hg_laws.proofs.Places.{valid_graphs_end_well_lem}
use Rattle.hg_laws.proofs.valid_graphs_end_well.Goals as goal

pub returns : goal.returns
returns c = valid_graphs_end_well_lem
