use Rattle.std.proofs.Common.{ap, ◌∙◌}
use Rattle.hg_graph.specs.Graph.{feeder}
use Rattle.hg_steps.specs.Machine.{fire_step}
use Rattle.hg_run.proofs.Parts.{stuck_at, goes_at}
use Rattle.hg_run.proofs.steps.call.Goals as goal

pub returns-in-None : goal.returns-in-None
unfolding fire_step
returns-in-None c = λ types outs frames events. stuck_at _ _ _ (c.in-None.ensures ∙ ap (feeder c.args.graph.now.links) c.static_input.ensures)

pub returns-in-Some : goal.returns-in-Some
unfolding fire_step
returns-in-Some c = λ types outs frames events. goes_at _ _ _ _ (c.in-Some.ensures ∙ ap (feeder c.args.graph.now.links) c.static_input.ensures) ∙ c.enter_after_turn.ensures frames events
