use Rattle.hg_laws.proofs.Fitting.{numbers_fit_lem}
use Rattle.hg_laws.proofs.numbers_fit.Goals as goal

pub returns : goal.returns
returns c = numbers_fit_lem
