use Rattle.std.proofs.Common.{sym, ap, ◌∙◌, refl, ◌-◌}
use Rattle.hg_graph.specs.Run.{perform}
use Rattle.hg_steps.specs.Machine.{fire_step}
use Rattle.hg_ops.specs.Op.{Module}
use Rattle.hg_run.specs.code.StateView.{frame_view, frame_list, plain, ready_view}
use Rattle.hg_run.proofs.Parts.{if_ok, give_stuck, give_fires, frames_more}
use Rattle.hg_run.proofs.Framed.{keep_more, on_ok_any}
use Rattle.hg_run.proofs.steps.go_on.Goals as goal

pub returns-in-None-clause-step : goal.returns-in-None-clause-step
returns-in-None-clause-step c = λ events.
    give_stuck c.args.graph.now (frame_view c.args.frame) c.args.frame.left c.args.frame.fired (frame_list c.args.frames.now.items) (plain c.args.machine.now events) _ c.requires.more (rw c.in-None.is at (c.in_ok-choose_child.ensures.choice events))

pub returns-in-None-op_of-clause-step : goal.returns-in-None-op_of-clause-step
unfolding fire_step perform
returns-in-None-op_of-clause-step c = λ events.
    give_fires c.args.graph.now (frame_view c.args.frame) c.args.frame.left c.args.frame.fired (frame_list c.args.frames.now.items) (plain c.args.machine.now events) _ (ready_view c.in-Some.chosen) Module
    (frame_list c.push.new.self.items) _ c.requires.more (rw c.in-Some.is at (c.in_ok-choose_child.ensures.choice events)) (sym c.in-None-op_of.ensures)
    (ap frame_list c.in_ok-push-in-Some.ensures.items ∙ frames_more c.args.frames.now.items (record { container = c.args.frame.container; output = c.args.frame.output; running = c.in-Some.chosen.node; fired = c.args.frame.fired; dues = c.choose_child.new.dues; left = c.args.frame.left - 1 })) refl

pub returns-in-Some-op_of-clause-step : goal.returns-in-Some-op_of-clause-step
returns-in-Some-op_of-clause-step c = if_ok c.fire.result _ _ c.fire.ensures (λ how h events.
    give_fires c.args.graph.now (frame_view c.args.frame) c.args.frame.left c.args.frame.fired (frame_list c.args.frames.now.items) (plain c.args.machine.now events) _ (ready_view c.in-Some.chosen) _
    (frame_list c.push.new.self.items) _ c.requires.more (rw c.in-Some.is at (c.in_ok-choose_child.ensures.choice events)) c.in-Some-op_of.ensures
    (ap frame_list c.in_ok-push-in-Some.ensures.items ∙ frames_more c.args.frames.now.items (record { container = c.args.frame.container; output = c.args.frame.output; running = c.in-Some.chosen.node; fired = c.args.frame.fired; dues = c.choose_child.new.dues; left = c.args.frame.left - 1 })) (h c.push.new.self.items events))

pub returns-in-None-op_of-clause-kept : goal.returns-in-None-op_of-clause-kept
returns-in-None-op_of-clause-kept c =
    keep_more c.args.graph.now c.args.frames.now.items c.push.new.self.items (record { container = c.args.frame.container; output = c.args.frame.output; running = c.in-Some.chosen.node; fired = c.args.frame.fired; dues = c.choose_child.new.dues; left = c.args.frame.left - 1 })
    c.in_ok-push-in-Some.ensures.items c.requires.keep (rw c.in-Some.is at c.in_ok-choose_child.ensures.rest)

pub returns-in-Some-op_of-clause-kept : goal.returns-in-Some-op_of-clause-kept
returns-in-Some-op_of-clause-kept c = on_ok_any c.fire.result _
    (keep_more c.args.graph.now c.args.frames.now.items c.push.new.self.items (record { container = c.args.frame.container; output = c.args.frame.output; running = c.in-Some.chosen.node; fired = c.args.frame.fired; dues = c.choose_child.new.dues; left = c.args.frame.left - 1 })
    c.in_ok-push-in-Some.ensures.items c.requires.keep (rw c.in-Some.is at c.in_ok-choose_child.ensures.rest))
