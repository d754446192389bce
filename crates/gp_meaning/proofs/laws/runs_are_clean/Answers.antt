use Rattle.gp_meaning.proofs.CleanRuns.{runs_are_clean}
use Rattle.gp_meaning.proofs.laws.runs_are_clean.Goals as goal

pub returns : goal.returns
returns c = runs_are_clean
