use Rattle.std.proofs.Common.{◌-◌, length}
use Rattle.gp_base.proofs.Written.{WrittenSoFar}
use Rattle.gp_base.proofs.sink.write_all.Given as goal

abbrev pub invariant-loop-count : goal.invariant-loop-count
invariant-loop-count g l =
    let sink = g.S.Sink in
    WrittenSoFar l.bytes l.count (sink.bytes l.initial.sink) (sink.bytes l.sink) (sink.faults l.initial.sink) (sink.faults l.sink)

abbrev pub decreases-loop-count : goal.decreases-loop-count
decreases-loop-count g l = length l.initial.bytes - l.count
