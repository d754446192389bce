use Rattle.std.proofs.Common.{drop}
use Rattle.hg_graph.specs.Run.{outs_at}
use Rattle.hg_run.specs.code.Due.{KnowsDuesBeside}
use Rattle.hg_run.proofs.due.refresh_all.Given as goal

abbrev pub invariant-loop-k : goal.invariant-loop-k
invariant-loop-k l = KnowsDuesBeside l.graph l.container.0 (outs_at l.fired) (drop l.k l.nodes) l.dues
