use Rattle.std.proofs.Common.{ap, ◌∙◌, replicate, [], arith}
use Rattle.hg_valid.proofs.Edges.{edges_start, edges_end}
use Rattle.hg_valid.proofs.successors.successors_of.Goals as goal

pub loop-k-init : goal.loop-k-init
loop-k-init c = edges_start c.args.graph.now c.in_ok-lists.lists.items (c.in_ok-lists.ensures ∙ ap (λ n. replicate n []) c.node_count.ensures.count)

pub returns : goal.returns
returns c = edges_end c.args.graph.now c.loop-k.k c.loop-k.lists.items (omega arith) c.loop-k.invariant
