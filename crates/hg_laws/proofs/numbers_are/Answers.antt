use Rattle.hg_laws.proofs.Samples.{numbers_are_lem}
use Rattle.hg_laws.proofs.numbers_are.Goals as goal

pub returns : goal.returns
returns c = numbers_are_lem
