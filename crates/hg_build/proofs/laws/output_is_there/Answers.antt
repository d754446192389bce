use Rattle.hg_build.proofs.Containing.{output_is_there}
use Rattle.hg_build.proofs.laws.output_is_there.Goals as goal

pub returns : goal.returns
returns c = output_is_there
