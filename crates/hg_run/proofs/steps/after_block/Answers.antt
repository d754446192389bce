use Rattle.std.proofs.Common.{sym, ap, ◌∙◌}
use Rattle.std.specs.Option.{option_map}
use Rattle.hg_steps.specs.Machine.{variant_of, close_step}
use Rattle.hg_run.specs.code.ChosenView.{chosen_view}
use Rattle.hg_run.proofs.Parts.{stuck_at, goes_at}
use Rattle.hg_run.proofs.steps.after_block.Goals as goal

pub returns-in-None : goal.returns-in-None
unfolding close_step
returns-in-None c = λ types others rows frames events. stuck_at (variant_of c.args.outs) _ _ (ap (option_map chosen_view) (sym c.in-None.is) ∙ c.in_ok-choose.ensures)

pub returns-in-None-first_taker : goal.returns-in-None-first_taker
unfolding close_step
returns-in-None-first_taker c = λ types others rows frames events.
    goes_at (variant_of c.args.outs) (chosen_view c.in-Some.chosen) _ _ (ap (option_map chosen_view) (sym c.in-Some.is) ∙ c.in_ok-choose.ensures) ∙ stuck_at _ _ _ c.in-None-first_taker.ensures

pub returns-in-Some-first_taker : goal.returns-in-Some-first_taker
unfolding close_step
returns-in-Some-first_taker c = λ types others rows frames events.
    goes_at (variant_of c.args.outs) (chosen_view c.in-Some.chosen) _ _ (ap (option_map chosen_view) (sym c.in-Some.is) ∙ c.in_ok-choose.ensures)
    ∙ (goes_at _ _ _ _ c.in-Some-first_taker.ensures ∙ c.jump.ensures frames events)
