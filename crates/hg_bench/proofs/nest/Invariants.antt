use Rattle.std.proofs.Common.{◌<◌, length}
use Rattle.hg_bench.proofs.nest.Given as goal

-- the last region is a node
abbrev pub invariant-loop : goal.invariant-loop
invariant-loop l = l.last.0 < length l.graph.nodes
