use Rattle.std.proofs.Common.{ap, ◌∙◌, sym, subst, List}
use Rattle.hg_graph.specs.Run.{Fired, outs_at}
use Rattle.hg_run.specs.code.Due.{KnowsOtherDues}
use Rattle.hg_run.proofs.Framed.{keep_more}
use Rattle.gp_base.specs.Run.{Returned}
use Rattle.hg_steps.specs.Machine.{opens, Gives}
use Rattle.hg_run.specs.code.StateView.{plain}
use Rattle.hg_run.proofs.Parts.{stuck_at, goes_at, opened}
use Rattle.hg_run.proofs.steps.open.Goals as goal

pub returns-in_default-clause-step : goal.returns-in_default-clause-step
unfolding opens
returns-in_default-clause-step c = λ m events. stuck_at _ _ _ c.in_default.ensures

pub returns-in_default-child_of-clause-step : goal.returns-in_default-child_of-clause-step
unfolding opens
returns-in_default-child_of-clause-step c = λ m events. goes_at _ _ _ _ c.in-Some.ensures ∙ stuck_at _ _ _ c.in_default-child_of.ensures

pub returns-clause-step : goal.returns-clause-step
unfolding opens
returns-clause-step c = λ m events.
    goes_at _ _ _ _ c.in-Some.ensures
    ∙ (goes_at _ _ _ _ c.in-Some-child_of.ensures
    ∙ ap (λ frames. Returned (record { task = Gives c.args.ins; frames = frames }) (plain m events)) (opened c.args.frames.now.items c.push.new.self.items _ _ c.in_ok-push.ensures.items c.new.ensures c.firing_count.ensures))

pub returns-clause-kept : goal.returns-clause-kept
returns-clause-kept c =
    keep_more c.args.graph.now c.args.frames.now.items c.push.new.self.items _ c.in_ok-push.ensures.items c.requires
    (subst (λ (fired : List Fired). KnowsOtherDues c.args.graph.now c.args.node.0 (outs_at fired) c.in-Some.input.0 c.in_ok-first_due.field-0) (sym c.new.ensures) c.in_ok-first_due.ensures)
