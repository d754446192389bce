use Rattle.std.proofs.Common.{◌≡◌, length, sym, ap, ◌∙◌}
use Rattle.std.proofs.lemmas.List.{length-map, length-replicate}
use Rattle.hg_graph.specs.Graph.{children}
use Rattle.hg_graph.specs.Run.{outs_at}
use Rattle.hg_graph.specs.View.{number_of}
use Rattle.hg_run.specs.code.Waits.{value_came, order_came}
use Rattle.hg_run.proofs.Arrivals.{none_seen}
use Rattle.hg_run.proofs.Elsewhere.{at_first}
use Rattle.hg_run.proofs.due.first_due.Goals as goal

pub refresh_all-requires : goal.refresh_all-requires
refresh_all-requires c =
    let g = c.args.graph.now in
    let look = outs_at c.new-fired.result in
    let nodes = c.children_of-nodes.result.now in
    let count : length nodes ≡ length (children g c.args.container.0) = sym (length-map nodes number_of) ∙ ap length c.children_of-nodes.ensures in
    let dues = c.in_ok-dues.dues in
    let none = c.in_ok-dues.ensures in
    record {
      ready = at_first g c.args.container.0 look nodes dues.ready c.children_of-nodes.ensures (ap length none.ready ∙ (length-replicate _ _ ∙ count));
      seen = record {
        values = none_seen g c.args.container.0 (length nodes) (value_came g look) dues.values.items none.values count;
        orders = none_seen g c.args.container.0 (length nodes) (order_came g look) dues.orders.items none.orders count;
      };
    }
