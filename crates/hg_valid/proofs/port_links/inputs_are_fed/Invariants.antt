use Rattle.std.proofs.Common.{◌≡◌, ℕ, ◌<◌}
use Rattle.hg_graph.specs.Graph.{links_into}
use Rattle.hg_valid.proofs.port_links.inputs_are_fed.Given as goal

abbrev pub invariant-loop-index : goal.invariant-loop-index
invariant-loop-index l = (p : ℕ) → p < l.index → links_into l.graph.links (record { node = l.node.0; index = p }) ≡ 1
