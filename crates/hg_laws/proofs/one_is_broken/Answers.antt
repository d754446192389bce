use Rattle.hg_laws.proofs.Broken.{one_is_broken_lem}
use Rattle.hg_laws.proofs.one_is_broken.Goals as goal

pub returns : goal.returns
returns c = one_is_broken_lem
