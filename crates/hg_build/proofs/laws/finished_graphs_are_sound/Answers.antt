use Rattle.hg_build.proofs.Finished.{finished_graphs_are_sound}
use Rattle.hg_build.proofs.laws.finished_graphs_are_sound.Goals as goal

pub returns : goal.returns
returns c = finished_graphs_are_sound
