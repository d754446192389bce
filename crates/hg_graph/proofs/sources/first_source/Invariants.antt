use Rattle.std.proofs.Common.{◌≡◌, drop, map}
use Rattle.hg_graph.specs.Graph.{feeder}
use Rattle.hg_graph.specs.View.{port_view, link_view}
use Rattle.hg_graph.proofs.sources.first_source.Given as goal

-- no link so far leads into the port
abbrev pub invariant-loop-link : goal.invariant-loop-link
invariant-loop-link l =
    feeder (map link_view (drop l.link-index l.links)) (port_view l.to) ≡ feeder (map link_view l.links) (port_view l.to)
