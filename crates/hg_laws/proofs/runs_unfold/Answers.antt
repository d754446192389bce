use Rattle.hg_laws.proofs.Main.{runs_unfold_lem}
use Rattle.hg_laws.proofs.runs_unfold.Goals as goal

pub returns : goal.returns
returns c = runs_unfold_lem
