use Rattle.hg_build.proofs.Start.{module_begins}
use Rattle.hg_build.proofs.laws.module_begins.Goals as goal

pub returns : goal.returns
returns c = module_begins
