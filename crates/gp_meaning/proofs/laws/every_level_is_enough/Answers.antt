use Rattle.gp_meaning.proofs.RunLaws.{every_level}
use Rattle.gp_meaning.proofs.laws.every_level_is_enough.Goals as goal

pub returns : goal.returns
returns c = every_level
