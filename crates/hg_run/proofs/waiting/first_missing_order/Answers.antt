use Rattle.std.proofs.Common.{◌∙◌, sym, below_more}
use Rattle.std.specs.Option.{option_map}
use Rattle.hg_graph.specs.View.{link_view}
use Rattle.hg_graph.specs.Run.{outs_at}
use Rattle.hg_run.proofs.Arrivals.{order_here}
use Rattle.hg_run.proofs.waiting.first_missing_order.Goals as goal

pub loop-k-preserved : goal.loop-k-preserved
loop-k-preserved c =
    below_more _ _ c.loop-k.invariant
    (sym (order_here c.args.graph.now (outs_at c.args.fired.now) c.args.node.0 c.orders_into-numbers.result.now c.loop-k.k 0 (option_map link_view c.link_at.result) c.orders_into-numbers.ensures c.loop-k-test.true c.link_at.ensures)
    ∙ (sym c.order_is_kept.ensures ∙ c.if-order_is_kept.true))

pub returns-else-order_is_kept : goal.returns-else-order_is_kept
returns-else-order_is_kept c = record {
  before = c.loop-k.invariant;
  here = λ l.
      sym (order_here c.args.graph.now (outs_at c.args.fired.now) c.args.node.0 c.orders_into-numbers.result.now c.loop-k.k 0 (option_map link_view c.link_at.result) c.orders_into-numbers.ensures c.loop-k-test.true c.link_at.ensures)
      ∙ (sym c.order_is_kept.ensures ∙ c.if-order_is_kept.false);
}
