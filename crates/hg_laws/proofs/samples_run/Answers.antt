use Rattle.hg_laws.proofs.Samples.{samples_run_lem}
use Rattle.hg_laws.proofs.samples_run.Goals as goal

pub returns : goal.returns
returns c = samples_run_lem
