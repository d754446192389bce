use Rattle.gp_meaning.proofs.RunLaws.{samples}
use Rattle.gp_meaning.proofs.laws.samples_run.Goals as goal

pub returns : goal.returns
returns c = samples
