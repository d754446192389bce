use Rattle.hg_laws.proofs.Main.{bounds_suffice_lem}
use Rattle.hg_laws.proofs.bounds_suffice.Goals as goal

pub returns : goal.returns
returns c = bounds_suffice_lem
