use Rattle.hg_laws.proofs.Samples.{samples_are_valid_lem}
use Rattle.hg_laws.proofs.samples_are_valid.Goals as goal

pub returns : goal.returns
returns c = samples_are_valid_lem
