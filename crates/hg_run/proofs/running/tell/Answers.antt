use Rattle.gp_base.specs.declared.event.End.TheVariants as end
use Rattle.gp_base.specs.Outside.{appended}
use Rattle.hg_run.proofs.Buffered.{grown_more}
use Rattle.hg_run.proofs.Kept.{tags_kept}
use Rattle.hg_run.proofs.Told.{on_err}
use Rattle.hg_run.proofs.Walks.{walk_goes, walk_falls, ends_ok, ends_part, done_trace, done_end, stop_trace, stop_end, not_stuck, walk_part, walk_writes}
use Rattle.hg_run.proofs.running.tell.Goals as goal

pub returns-in_err-step-clause-err : goal.returns-in_err-step-clause-err
returns-in_err-step-clause-err g c = on_err _ (walk_part _ c.graph.ensures.valid _ _ _ _ _ _ _ _ c.loop-machine.invariant.1 c.requires.run)

pub returns-in_err-write_end-in-None-clause-err : goal.returns-in_err-write_end-in-None-clause-err
returns-in_err-write_end-in-None-clause-err g c =
    let done = rw c.in-None.is at c.in_ok-step.ensures.step in
    on_err _ (ends_part _ c.graph.ensures.valid _ _ _ _ _ _ _ _ c.loop-machine.invariant.1 end.Returned _ (done_trace _ c.graph.ensures.valid _ _ _ _ _ _ _ _ c.loop-machine.invariant.1 done.0) c.in_err-write_end-in-None.ensures.err)

pub returns-in-None-clause-ok : goal.returns-in-None-clause-ok
returns-in-None-clause-ok g c =
    let done = rw c.in-None.is at c.in_ok-step.ensures.step in
    ends_ok _ c.graph.ensures.valid _ _ _ _ _ _ _ _ c.loop-machine.invariant.1 end.Returned _ (done_trace _ c.graph.ensures.valid _ _ _ _ _ _ _ _ c.loop-machine.invariant.1 done.0) c.in_ok-write_end-in-None.ensures.ok

pub returns-in-None-clause-end : goal.returns-in-None-clause-end
returns-in-None-clause-end g c =
    let done = rw c.in-None.is at c.in_ok-step.ensures.step in
    done_end _ c.graph.ensures.valid _ _ _ _ _ _ _ _ c.loop-machine.invariant.1 done.0

pub end_of-end-requires : goal.end_of-end-requires
end_of-end-requires g c =
    let made = rw (c.graph.ensures.same, c.in-Some-Halts.is, c.in-Some-Halts.field-0-is) at c.in_ok-step.ensures.step in
    not_stuck _ c.graph.ensures.valid _ _ _ _ _ _ _ _ c.loop-machine.invariant.1 c.in-Some-Halts.halt c.step.new.frames.items c.step.new.machine made.1 c.requires.run

pub returns-in_err-write_end-in-Some-Halts-clause-err : goal.returns-in_err-write_end-in-Some-Halts-clause-err
returns-in_err-write_end-in-Some-Halts-clause-err g c =
    let made = rw (c.graph.ensures.same, c.in-Some-Halts.is, c.in-Some-Halts.field-0-is) at c.in_ok-step.ensures.step in
    on_err _ (ends_part _ c.graph.ensures.valid _ _ _ _ _ _ _ _ c.loop-machine.invariant.1 c.end_of-end.result _ (stop_trace _ c.graph.ensures.valid _ _ _ _ _ _ _ _ c.loop-machine.invariant.1 c.in-Some-Halts.halt c.step.new.frames.items c.step.new.machine made.1 _ c.end_of-end.ensures) c.in_err-write_end-in-Some-Halts.ensures.err)

pub returns-in-Some-Halts-clause-ok : goal.returns-in-Some-Halts-clause-ok
returns-in-Some-Halts-clause-ok g c =
    let made = rw (c.graph.ensures.same, c.in-Some-Halts.is, c.in-Some-Halts.field-0-is) at c.in_ok-step.ensures.step in
    ends_ok _ c.graph.ensures.valid _ _ _ _ _ _ _ _ c.loop-machine.invariant.1 c.end_of-end.result _ (stop_trace _ c.graph.ensures.valid _ _ _ _ _ _ _ _ c.loop-machine.invariant.1 c.in-Some-Halts.halt c.step.new.frames.items c.step.new.machine made.1 _ c.end_of-end.ensures) c.in_ok-write_end-in-Some-Halts.ensures.ok

pub returns-in-Some-Halts-clause-end : goal.returns-in-Some-Halts-clause-end
returns-in-Some-Halts-clause-end g c =
    let made = rw (c.graph.ensures.same, c.in-Some-Halts.is, c.in-Some-Halts.field-0-is) at c.in_ok-step.ensures.step in
    stop_end _ c.graph.ensures.valid _ _ _ _ _ _ _ _ c.loop-machine.invariant.1 c.in-Some-Halts.halt c.step.new.frames.items c.step.new.machine made.1 _ c.end_of-end.ensures

pub returns-in_err-write_one-in-Some-Goes-clause-err : goal.returns-in_err-write_one-in-Some-Goes-clause-err
returns-in_err-write_one-in-Some-Goes-clause-err g c =
    let made = rw (c.graph.ensures.same, c.in-Some-Goes.is, c.in-Some-Goes.field-0-is) at c.in_ok-step.ensures.step in
    on_err _ (walk_writes _ c.graph.ensures.valid _ _ _ _ _ _ _ _ c.loop-machine.invariant.1 c.in-Some-Goes.next c.in-Some-Goes.event c.step.new.frames.items c.step.new.machine (appended (g.S.Sink.bytes c.write_one.new.sink) c.write_one.new.buffer) made.1 c.requires.run c.in_err-write_one-in-Some-Goes.ensures.err)

pub returns-in_err-write_end-in-None-clause-grown : goal.returns-in_err-write_end-in-None-clause-grown
returns-in_err-write_end-in-None-clause-grown g c = grown_more _ _ _ c.loop-machine.invariant.2 c.in_err-write_end-in-None.ensures.grown

pub returns-in-None-clause-grown : goal.returns-in-None-clause-grown
returns-in-None-clause-grown g c = grown_more _ _ _ c.loop-machine.invariant.2 c.in_ok-write_end-in-None.ensures.grown

pub returns-in_err-write_end-in-Some-Halts-clause-grown : goal.returns-in_err-write_end-in-Some-Halts-clause-grown
returns-in_err-write_end-in-Some-Halts-clause-grown g c = grown_more _ _ _ c.loop-machine.invariant.2 c.in_err-write_end-in-Some-Halts.ensures.grown

pub returns-in-Some-Halts-clause-grown : goal.returns-in-Some-Halts-clause-grown
returns-in-Some-Halts-clause-grown g c = grown_more _ _ _ c.loop-machine.invariant.2 c.in_ok-write_end-in-Some-Halts.ensures.grown

pub returns-in_err-write_one-in-Some-Goes-clause-grown : goal.returns-in_err-write_one-in-Some-Goes-clause-grown
returns-in_err-write_one-in-Some-Goes-clause-grown g c = grown_more _ _ _ c.loop-machine.invariant.2 c.in_err-write_one-in-Some-Goes.ensures.grown

pub loop-machine-smaller : goal.loop-machine-smaller
loop-machine-smaller g c =
    let made = rw (c.graph.ensures.same, c.in-Some-Goes.is, c.in-Some-Goes.field-0-is) at c.in_ok-step.ensures.step in
    walk_falls _ c.graph.ensures.valid _ _ _ _ _ _ _ _ c.loop-machine.invariant.1 c.in-Some-Goes.next c.in-Some-Goes.event c.step.new.frames.items c.step.new.machine made.0 made.1

pub loop-machine-preserved : goal.loop-machine-preserved
loop-machine-preserved g c = (
  (rw c.graph.ensures.same at c.in_ok-step.ensures.kept),
  let made = rw (c.graph.ensures.same, c.in-Some-Goes.is, c.in-Some-Goes.field-0-is) at c.in_ok-step.ensures.step in
      walk_goes _ c.graph.ensures.valid _ _ _ _ _ _ _ _ c.loop-machine.invariant.1 c.in-Some-Goes.next c.in-Some-Goes.event c.step.new.frames.items c.step.new.machine (appended (g.S.Sink.bytes c.write_one.new.sink) c.write_one.new.buffer) (g.S.Sink.faults c.write_one.new.sink) made.1 c.in_ok-write_one-in-Some-Goes.ensures.ok c.in_ok-write_one-in-Some-Goes.ensures.count,
  grown_more _ _ _ c.loop-machine.invariant.2 c.in_ok-write_one-in-Some-Goes.ensures.grown,
)

pub step-requires-clause-tags : goal.step-requires-clause-tags
step-requires-clause-tags g c = rw c.graph.ensures.same (tags_kept _ c.graph.ensures.valid)
