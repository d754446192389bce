use Rattle.std.proofs.Common.{ap, ◌∙◌}
use Rattle.gp_base.specs.Run.{go_on}
use Rattle.hg_graph.specs.Graph.{feeder}
use Rattle.gp_base.specs.Run.{or_stuck}
use Rattle.hg_steps.specs.Machine.{fire_step, gives}
use Rattle.hg_run.specs.code.StateView.{frame_list, plain}
use Rattle.hg_run.proofs.Parts.{stuck_at, goes_at}
use Rattle.hg_run.proofs.steps.load_function.Goals as goal

pub returns-in-None : goal.returns-in-None
unfolding fire_step
returns-in-None c = λ types outs ins m frames events. stuck_at _ _ _ (c.in-None.ensures ∙ ap (feeder c.args.graph.now.links) c.static_input.ensures)

pub returns-in-None-2 : goal.returns-in-None-2
unfolding fire_step
returns-in-None-2 c = λ types outs ins m frames events.
    goes_at _ _ _ _ (c.in-Some.ensures ∙ ap (feeder c.args.graph.now.links) c.static_input.ensures)
    ∙ ap (λ o. go_on o (λ us. gives us (frame_list frames))) (c.in_ok-loaded_function-in-Some.ensures (plain m events) ∙ ap (λ o. or_stuck o (plain m events)) c.in-None-2.is)

pub returns-in-Some-2 : goal.returns-in-Some-2
unfolding fire_step
returns-in-Some-2 c = λ types outs ins m frames events.
    goes_at _ _ _ _ (c.in-Some.ensures ∙ ap (feeder c.args.graph.now.links) c.static_input.ensures)
    ∙ ap (λ o. go_on o (λ us. gives us (frame_list frames))) (c.in_ok-loaded_function-in-Some.ensures (plain m events) ∙ ap (λ o. or_stuck o (plain m events)) c.in-Some-2.is)
