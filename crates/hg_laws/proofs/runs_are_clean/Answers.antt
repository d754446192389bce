use Rattle.hg_laws.proofs.Main.{runs_are_clean_lem}
use Rattle.hg_laws.proofs.runs_are_clean.Goals as goal

pub returns : goal.returns
returns c = runs_are_clean_lem
