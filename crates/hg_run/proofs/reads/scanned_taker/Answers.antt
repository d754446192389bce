use Rattle.hg_graph.specs.View.{port_view, link_view}
use Rattle.hg_run.proofs.Scans.{taker_here, taker_more}
use Rattle.hg_run.proofs.reads.scanned_taker.Goals as goal

pub returns-in-Some-target_from : goal.returns-in-Some-target_from
returns-in-Some-target_from c =
    taker_here (port_view c.args.from) c.args.graph.now.links c.loop-k.k (link_view c.in-Some.link) (port_view c.in-Some-target_from.to) c.in-Some.ensures c.in-Some-target_from.ensures c.loop-k.invariant

pub loop-k-preserved : goal.loop-k-preserved
loop-k-preserved c =
    taker_more (port_view c.args.from) c.args.graph.now.links c.loop-k.k (link_view c.in-Some.link) c.in-Some.ensures c.in_default.ensures c.loop-k.invariant
