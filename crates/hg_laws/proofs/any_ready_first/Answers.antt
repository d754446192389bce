use Rattle.hg_laws.proofs.Main.{any_ready_first_lem}
use Rattle.hg_laws.proofs.any_ready_first.Goals as goal

pub returns : goal.returns
returns c = any_ready_first_lem
