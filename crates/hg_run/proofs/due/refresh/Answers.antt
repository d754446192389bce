use Rattle.std.proofs.Common.{sym, subst, arith}
use Rattle.hg_graph.specs.Run.{outs_at}
use Rattle.hg_run.specs.code.Due.{Refreshes}
use Rattle.hg_run.specs.code.Waits.{value_came, order_came}
use Rattle.hg_run.proofs.Arrivals.{child_within, place_within, seen_here, seen_more}
use Rattle.hg_run.proofs.Elsewhere.{refreshed}
use Rattle.hg_run.proofs.due.refresh.Goals as goal

pub first_missing_order-order-requires-clause-node_in : goal.first_missing_order-order-requires-clause-node_in
first_missing_order-order-requires-clause-node_in c = child_within c.args.graph.now c.args.container.0 c.in-Some.place c.args.node.0 c.in-Some.ensures.0

pub is_due-requires-clause-node_in : goal.is_due-requires-clause-node_in
is_due-requires-clause-node_in c = child_within c.args.graph.now c.args.container.0 c.in-Some.place c.args.node.0 c.in-Some.ensures.0

pub first_missing_order-order-requires-clause-so_far : goal.first_missing_order-order-requires-clause-so_far
first_missing_order-order-requires-clause-so_far c =
    let g = c.args.graph.now in
    seen_here g c.args.container.0 c.in-Some.place c.args.node.0 c.index-in-Some.result.now _ (order_came g (outs_at c.args.fired.now)) c.args.dues.now.orders.items
    c.in-Some.ensures.0 c.requires.seen.orders c.index-in-Some.ensures

pub index_mut-requires : goal.index_mut-requires
index_mut-requires c =
    omega (arith, place_within c.args.graph.now c.args.container.0 c.in-Some.place c.args.node.0 c.args.dues.now.values.items c.in-Some.ensures.0 c.requires.seen.values.all, c.args.dues.now.values.ok.0)

pub index_mut-requires-in-Some : goal.index_mut-requires-in-Some
index_mut-requires-in-Some c =
    omega (arith, place_within c.args.graph.now c.args.container.0 c.in-Some.place c.args.node.0 c.args.dues.now.orders.items c.in-Some.ensures.0 c.requires.seen.orders.all, c.args.dues.now.orders.ok.0)

pub put-requires : goal.put-requires
put-requires c = place_within c.args.graph.now c.args.container.0 c.in-Some.place c.args.node.0 c.args.dues.now.ready c.in-Some.ensures.0 c.requires.ready

pub returns-in-Some-clause-ready : goal.returns-in-Some-clause-ready
returns-in-Some-clause-ready c =
    let g = c.args.graph.now in
    subst (Refreshes g c.args.container.0 (outs_at c.args.fired.now) c.args.node.0 c.args.dues.now.ready) (sym c.put.ensures)
    (refreshed g c.args.container.0 c.args.node.0 (outs_at c.args.fired.now) c.in-Some.place c.args.dues.now.ready c.is_due.result c.in-Some.ensures c.requires.ready c.is_due.ensures)

pub returns-in-Some-clause-seen : goal.returns-in-Some-clause-seen
returns-in-Some-clause-seen c =
    let g = c.args.graph.now in
    let look = outs_at c.args.fired.now in
    record {
      values =
          seen_more g c.args.container.0 c.in-Some.place c.args.node.0 c.first_missing_value-value.result (value_came g look) c.args.dues.now.values.items
          c.in-Some.ensures.0 c.first_missing_value-value.ensures.before c.requires.seen.values;
      orders =
          seen_more g c.args.container.0 c.in-Some.place c.args.node.0 c.first_missing_order-order.result (order_came g look) c.args.dues.now.orders.items
          c.in-Some.ensures.0 c.first_missing_order-order.ensures.before c.requires.seen.orders;
    }
