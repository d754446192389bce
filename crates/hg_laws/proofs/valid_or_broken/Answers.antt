use Rattle.hg_laws.proofs.Decided.{valid_or_broken_lem}
use Rattle.hg_laws.proofs.valid_or_broken.Goals as goal

pub returns : goal.returns
returns c = valid_or_broken_lem
