use Rattle.hg_laws.proofs.Places.{valid_graphs_keep_places_lem}
use Rattle.hg_laws.proofs.valid_graphs_keep_places.Goals as goal

pub returns : goal.returns
returns c = valid_graphs_keep_places_lem
