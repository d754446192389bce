use Rattle.std.proofs.Common.{sym, ◌∙◌}
use Rattle.hg_steps.specs.Machine.{give_step}
use Rattle.hg_run.proofs.Parts.{stuck_at, goes_at, if_ok}
use Rattle.hg_run.proofs.steps.end.Goals as goal

pub returns-in-None : goal.returns-in-None
unfolding give_step
returns-in-None c = λ frames events.
    stuck_at _ _ _ (sym c.in-None.is ∙ c.in_ok-inputs_of.ensures)

pub returns : goal.returns
unfolding give_step
returns c = if_ok c.close.result _ _ c.close.ensures (λ how h frames events.
    goes_at _ _ _ _ (sym c.in-Some.is ∙ c.in_ok-inputs_of.ensures) ∙ h frames events)
