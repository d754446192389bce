use Rattle.std.proofs.Common.{arith}
use Rattle.hg_run.proofs.Looks.{no_children}
use Rattle.hg_run.proofs.reads.children_of.Goals as goal

pub returns-else-node-node_count : goal.returns-else-node-node_count
returns-else-node-node_count c = no_children c.args.graph.now c.args.node.0 c.node_count.ensures.graph (omega arith)
