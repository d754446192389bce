use Rattle.hg_laws.proofs.Main.{valid_regions_go_on_lem}
use Rattle.hg_laws.proofs.valid_regions_go_on.Goals as goal

pub returns : goal.returns
returns c = valid_regions_go_on_lem
