use Rattle.hg_build.proofs.Known.{calls_grow}
use Rattle.hg_build.proofs.laws.calls_grow.Goals as goal

pub returns : goal.returns
returns c = calls_grow
