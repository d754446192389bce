use Rattle.hg_laws.proofs.Main.{picks_change_nothing_lem}
use Rattle.hg_laws.proofs.picks_change_nothing.Goals as goal

pub returns : goal.returns
returns c = picks_change_nothing_lem
