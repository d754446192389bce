use Rattle.std.proofs.Common.{sym, ap, ◌∙◌}
use Rattle.std.specs.Option.{option_map}
use Rattle.hg_steps.specs.Machine.{variant_of, close_step, round_step}
use Rattle.hg_run.specs.code.ChosenView.{chosen_view}
use Rattle.hg_run.specs.code.StateView.{frame_list, plain}
use Rattle.hg_run.proofs.Parts.{stuck_at, goes_at, round_other}
use Rattle.hg_run.proofs.steps.after_round.Goals as goal

pub returns-in-None : goal.returns-in-None
unfolding close_step
returns-in-None c = λ again leave rest g frames events. stuck_at (variant_of c.args.outs) _ _ (ap (option_map chosen_view) (sym c.in-None.is) ∙ c.in_ok-choose.ensures)

pub returns-then-chosen-eq0 : goal.returns-then-chosen-eq0
unfolding close_step
returns-then-chosen-eq0 c = λ again leave rest g frames events.
    goes_at (variant_of c.args.outs) (chosen_view c.in-Some.chosen) _ _ (ap (option_map chosen_view) (sym c.in-Some.is) ∙ c.in_ok-choose.ensures)
    ∙ (ap (λ k. round_step g k c.args.node.0 c.in-Some.chosen.values (frame_list frames) (plain c.args.machine.now events)) c.if-chosen-eq0.true ∙ c.enter_after_turn.ensures frames events)

pub returns-then-chosen-eq1 : goal.returns-then-chosen-eq1
unfolding close_step
returns-then-chosen-eq1 c = λ again leave rest g frames events.
    goes_at (variant_of c.args.outs) (chosen_view c.in-Some.chosen) _ _ (ap (option_map chosen_view) (sym c.in-Some.is) ∙ c.in_ok-choose.ensures)
    ∙ ap (λ k. round_step g k c.args.node.0 c.in-Some.chosen.values (frame_list frames) (plain c.args.machine.now events)) c.if-chosen-eq1.true

pub returns-else-chosen-eq1 : goal.returns-else-chosen-eq1
unfolding close_step
returns-else-chosen-eq1 c = λ again leave rest g frames events.
    goes_at (variant_of c.args.outs) (chosen_view c.in-Some.chosen) _ _ (ap (option_map chosen_view) (sym c.in-Some.is) ∙ c.in_ok-choose.ensures)
    ∙ round_other g c.in-Some.chosen.tag c.args.node.0 c.in-Some.chosen.values (frame_list frames) (plain c.args.machine.now events) c.if-chosen-eq0.false c.if-chosen-eq1.false
