use Rattle.std.proofs.Common.{◌-◌, length, drop}
use Rattle.hg_run.proofs.Buffered.{Flushing}
use Rattle.hg_run.proofs.line_buffer.LineBuffer.flush.Given as goal

abbrev pub invariant-loop-self : goal.invariant-loop-self
invariant-loop-self g l =
    let sink = g.S.Sink in
    Flushing (sink.bytes l.initial.sink) (drop l.initial.self-inside.written l.initial.self-inside.bytes.items) (sink.bytes l.sink) l.self-inside.bytes.items l.self-inside.written (sink.faults l.initial.sink) (sink.faults l.sink)

abbrev pub decreases-loop-self : goal.decreases-loop-self
decreases-loop-self g l = length l.self-inside.bytes.items - l.self-inside.written
