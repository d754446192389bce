use Rattle.std.proofs.Common.{◌≡◌, length, ap, ◌∙◌}
use Rattle.std.proofs.lemmas.Result.{err_from_is_err_and}
use Rattle.serde_json.specs.View.{items_view}
use Rattle.hg_graph.specs.View.{link_view}
use Rattle.hg_json.specs.Reading.{BadLink, link_of}
use Rattle.hg_json.proofs.Turns.{goes_on, ends, is_done, linked_done, linked_refused}
use Rattle.hg_json.proofs.reading.linked.Goals as goal

pub returns-in_err-link : goal.returns-in_err-link
returns-in_err-link c =
    let p = err_from_is_err_and c.from_residual.result c.from_residual.ensures.1 in
    let total : c.node_count.result ≡ length c.args.graph.nodes = c.node_count.ensures.count ∙ ap length c.loop-k.invariant.0 in
    rw (p.1, p.2) (linked_refused c.args.graph.nodes (items_view c.args.edges.now) c.in_err-link.field-0.0
    (ends (link_of (length c.args.graph.nodes)) BadLink c.loop-k.graph.links c.args.edges.now c.loop-k.k _ c.loop-k.invariant.1 c.in_err-link.field-0.0 c.index-edges-k.result c.loop-k-test.true c.index-edges-k.is (rw total at c.in_err-link.ensures.answers)))

pub loop-k-preserved : goal.loop-k-preserved
loop-k-preserved c =
    let total : c.node_count.result ≡ length c.args.graph.nodes = c.node_count.ensures.count ∙ ap length c.loop-k.invariant.0 in
    let e = c.in_ok-add_link.ensures in
    rw e (
      c.loop-k.invariant.0,
      goes_on (link_of (length c.args.graph.nodes)) BadLink c.loop-k.graph.links c.args.edges.now c.loop-k.k _ c.loop-k.invariant.1 c.index-edges-k.result (link_view c.in_ok-link.link) c.loop-k-test.true c.index-edges-k.is (rw total at c.in_ok-link.ensures.answers),
    )

pub returns : goal.returns
returns c =
    linked_done c.loop-k.graph c.args.graph.nodes (items_view c.args.edges.now) c.loop-k.invariant.0
    (is_done (link_of (length c.args.graph.nodes)) BadLink c.loop-k.graph.links c.args.edges.now c.loop-k.k _ c.loop-k.invariant.1 c.loop-k-test.false)
