use Rattle.hg_build.proofs.Containing.{whole_is_ready}
use Rattle.hg_build.proofs.laws.whole_is_ready.Goals as goal

pub returns : goal.returns
returns c = whole_is_ready
