use Rattle.std.proofs.Common.{◌≡◌, drop}
use Rattle.hg_graph.specs.Graph.{taker}
use Rattle.hg_graph.specs.View.{port_view}
use Rattle.hg_run.proofs.reads.scanned_taker.Given as goal

-- no link so far comes out of the port
abbrev pub invariant-loop-k : goal.invariant-loop-k
invariant-loop-k l = taker l.graph.links (port_view l.from) ≡ taker (drop l.k l.graph.links) (port_view l.from)
