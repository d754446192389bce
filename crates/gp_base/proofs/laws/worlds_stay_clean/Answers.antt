use Rattle.gp_base.proofs.Steps.{worlds_stay_clean_lem}
use Rattle.gp_base.proofs.laws.worlds_stay_clean.Goals as goal

pub returns : goal.returns
returns c = worlds_stay_clean_lem
