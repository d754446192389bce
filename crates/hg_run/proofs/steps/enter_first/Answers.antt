use Rattle.hg_steps.specs.Machine.{enter_step}
use Rattle.hg_run.proofs.Parts.{stuck_at, goes_at}
use Rattle.hg_run.proofs.steps.enter_first.Goals as goal

pub returns-in-None : goal.returns-in-None
unfolding enter_step
returns-in-None c = λ types outs m frames events. stuck_at _ _ _ c.in-None.ensures

pub returns-in-Some : goal.returns-in-Some
unfolding enter_step
returns-in-Some c = λ types outs m frames events. goes_at _ _ _ _ c.in-Some.ensures
