use Rattle.std.proofs.Common.{◌+◌, ◌-◌, ◌/◌, ◌<◌, length, arith}
use Rattle.hg_graph.specs.Graph.{children}
use Rattle.hg_run.proofs.Elsewhere.{below_more, above_more, is_place, no_place, number_at, not_here}
use Rattle.hg_run.proofs.due.place_among.Goals as goal
use Rattle.hg_run.proofs.due.place_among.Goals.{else-low-nodes-via-then-low-nodes+else-nodes-low, else-low-nodes-via-else-low-nodes}

pub loop-low-preserved-then-nodes-middle : goal.loop-low-preserved-then-nodes-middle
loop-low-preserved-then-nodes-middle c =
    let g = c.args.graph.now in
    let nodes = c.children_of-nodes.result.now in
    let middle = c.loop-low.low + (c.loop-low.high - c.loop-low.low) / 2 in
    let most = c.loop-low.invariant.0 in
    let l : middle < length nodes = omega (arith, c.loop-low-test.true) in (
      most,
      below_more g c.args.container.0 c.args.node.0 middle _ (number_at nodes (children g c.args.container.0) middle (record { 0 = 0 }) c.children_of-nodes.ensures l) c.if-nodes-middle.true,
      c.loop-low.invariant.2,
    )

pub loop-low-preserved : goal.loop-low-preserved
loop-low-preserved c =
    let g = c.args.graph.now in
    let nodes = c.children_of-nodes.result.now in
    let middle = c.loop-low.low + (c.loop-low.high - c.loop-low.low) / 2 in
    let most = c.loop-low.invariant.0 in
    let l : middle < length nodes = omega (arith, c.loop-low-test.true) in (
      omega (arith, l),
      c.loop-low.invariant.1,
      above_more g c.args.container.0 c.args.node.0 middle _ (number_at nodes (children g c.args.container.0) middle (record { 0 = 0 }) c.children_of-nodes.ensures l) (omega (arith, c.if-nodes-middle.false)),
    )

pub returns-then-nodes-low : goal.returns-then-nodes-low
returns-then-nodes-low c =
    let g = c.args.graph.now in
    let nodes = c.children_of-nodes.result.now in
    is_place g c.args.container.0 c.args.node.0 c.loop-low.low
    (rw (← c.if-nodes-low.true) (number_at nodes (children g c.args.container.0) c.loop-low.low (record { 0 = 0 }) c.children_of-nodes.ensures c.if-low-nodes.true))

pub returns-else-low-nodes : goal.returns-else-low-nodes
returns-else-low-nodes c =
    let g = c.args.graph.now in
    let nodes = c.children_of-nodes.result.now in
    let xs = children g c.args.container.0 in
    no_place g c.args.container.0 c.args.node.0 c.loop-low.low c.loop-low.high (omega (arith, c.loop-low-test.false)) c.loop-low.invariant.1 c.loop-low.invariant.2
    (elim c.else-low-nodes.branch [
      | else-low-nodes-via-then-low-nodes+else-nodes-low w ↦ not_here nodes xs c.loop-low.low c.args.node.0 (record { 0 = 0 }) c.children_of-nodes.ensures (λ l q. w.if-nodes-low.false q)
      | else-low-nodes-via-else-low-nodes w ↦ not_here nodes xs c.loop-low.low c.args.node.0 (record { 0 = 0 }) c.children_of-nodes.ensures (λ l q. omega (arith, l, w.if-low-nodes.false))
    ])
