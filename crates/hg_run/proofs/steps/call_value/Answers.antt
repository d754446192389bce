use Rattle.std.proofs.Common.{sym, ap, ◌∙◌}
use Rattle.std.specs.Option.{option_map}
use Rattle.hg_steps.specs.Machine.{function_of, fire_step}
use Rattle.hg_run.specs.code.ChosenView.{called_view}
use Rattle.hg_run.proofs.Parts.{stuck_at, goes_at}
use Rattle.hg_run.proofs.steps.call_value.Goals as goal

pub returns-in-None : goal.returns-in-None
unfolding fire_step
returns-in-None c = λ node frames events. stuck_at (function_of c.args.ins) _ _ (ap (option_map called_view) (sym c.in-None.is) ∙ c.called.ensures)

pub returns-in-None-callee : goal.returns-in-None-callee
unfolding fire_step
returns-in-None-callee c = λ node frames events.
    goes_at (function_of c.args.ins) (called_view c.in-Some.called) _ _ (ap (option_map called_view) (sym c.in-Some.is) ∙ c.called.ensures) ∙ stuck_at _ _ _ c.in-None-callee.ensures

pub returns-in-Some-callee : goal.returns-in-Some-callee
unfolding fire_step
returns-in-Some-callee c = λ node frames events.
    goes_at (function_of c.args.ins) (called_view c.in-Some.called) _ _ (ap (option_map called_view) (sym c.in-Some.is) ∙ c.called.ensures)
    ∙ (goes_at _ _ _ _ c.in-Some-callee.ensures ∙ c.enter_after_turn.ensures frames events)
