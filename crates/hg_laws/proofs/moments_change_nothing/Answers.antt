use Rattle.hg_laws.proofs.Places.{moments_change_nothing_lem}
use Rattle.hg_laws.proofs.moments_change_nothing.Goals as goal

pub returns : goal.returns
returns c = moments_change_nothing_lem
