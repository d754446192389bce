use Rattle.std.proofs.Common.{refl, ap}
use Rattle.hg_ops.specs.Op.{Op}
use Rattle.hg_steps.specs.Machine.{enter_step}
use Rattle.hg_run.specs.code.StateView.{frame_list, plain}
use Rattle.hg_run.proofs.Framed.{keep_front, keep_last}
use Rattle.hg_run.proofs.steps.step.Goals as goal

pub returns-in-None-clause-step : goal.returns-in-None-clause-step
unfolding enter_step
returns-in-None-clause-step c =
    rw c.in-Enter.is
    (refl, λ events. ap (λ (kind : Op). enter_step c.args.graph.now kind c.in-Enter.node.0 c.in-Enter.ins (frame_list c.args.frames.now.items) (plain c.args.machine.now events)) c.in-None.ensures)

pub give-requires-clause-frame : goal.give-requires-clause-frame
give-requires-clause-frame c = keep_last c.args.graph.now c.args.frames.now.items c.pop.new.self.items c.in-Some-pop.frame c.in-Some-pop.ensures.items c.requires.keep

pub give-requires-clause-keep : goal.give-requires-clause-keep
give-requires-clause-keep c = keep_front c.args.graph.now c.args.frames.now.items c.pop.new.self.items c.in-Some-pop.frame c.in-Some-pop.ensures.items c.requires.keep
