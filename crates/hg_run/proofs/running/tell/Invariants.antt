use Rattle.std.proofs.Common.{[]}
use Rattle.gp_base.specs.Outside.{appended}
use Rattle.hg_steps.specs.Measure.{steps_left}
use Rattle.hg_run.specs.code.Buffering.{Grown}
use Rattle.hg_run.specs.code.Left.{config_of, out_of}
use Rattle.hg_run.specs.code.Stepped.{FramesKeep}
use Rattle.hg_run.proofs.Walks.{Walk}
use Rattle.hg_run.proofs.running.tell.Given as goal

abbrev pub invariant-loop-machine : goal.invariant-loop-machine
invariant-loop-machine g l =
    let sink = g.S.Sink in
    FramesKeep l.graph l.frames.items × Walk l.graph (out_of l.graph l.initial.task l.initial.frames.items l.initial.machine []) l.task l.frames.items l.machine (appended (sink.bytes l.initial.sink) l.initial.buffer) (appended (sink.bytes l.sink) l.buffer) (sink.faults l.initial.sink) (sink.faults l.sink) × Grown (sink.bytes l.initial.sink) (sink.bytes l.sink)

abbrev pub decreases-loop-machine : goal.decreases-loop-machine
decreases-loop-machine g l = steps_left l.graph l.machine.turns (config_of l.task l.frames.items)
