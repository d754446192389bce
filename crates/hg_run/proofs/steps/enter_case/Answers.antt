use Rattle.std.proofs.Common.{sym, ap, ◌∙◌}
use Rattle.std.specs.Option.{option_map}
use Rattle.hg_steps.specs.Machine.{variant_of, enter_step}
use Rattle.hg_run.specs.code.ChosenView.{chosen_view}
use Rattle.hg_run.proofs.Parts.{stuck_at, goes_at}
use Rattle.hg_run.proofs.steps.enter_case.Goals as goal

pub returns-in-None : goal.returns-in-None
unfolding enter_step
returns-in-None c = λ rows types outs m frames events. stuck_at (variant_of c.args.ins) _ _ (ap (option_map chosen_view) (sym c.in-None.is) ∙ c.in_ok-choose.ensures)

pub returns-in-None-child_of : goal.returns-in-None-child_of
unfolding enter_step
returns-in-None-child_of c = λ rows types outs m frames events.
    goes_at (variant_of c.args.ins) (chosen_view c.in-Some.chosen) _ _ (ap (option_map chosen_view) (sym c.in-Some.is) ∙ c.in_ok-choose.ensures) ∙ stuck_at _ _ _ c.in-None-child_of.ensures

pub returns-in-Some-child_of : goal.returns-in-Some-child_of
unfolding enter_step
returns-in-Some-child_of c = λ rows types outs m frames events.
    goes_at (variant_of c.args.ins) (chosen_view c.in-Some.chosen) _ _ (ap (option_map chosen_view) (sym c.in-Some.is) ∙ c.in_ok-choose.ensures) ∙ goes_at _ _ _ _ c.in-Some-child_of.ensures
