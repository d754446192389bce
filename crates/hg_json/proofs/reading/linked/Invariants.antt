use Rattle.std.proofs.Common.{◌≡◌, length, drop}
use Rattle.serde_json.specs.View.{items_view}
use Rattle.hg_json.specs.Reading.{BadLink, link_of, each}
use Rattle.hg_json.proofs.Turns.{with_front}
use Rattle.hg_json.proofs.reading.linked.Given as goal

-- the links so far are followed by those of the rest, and the nodes stay
abbrev pub invariant-loop-k : goal.invariant-loop-k
invariant-loop-k l =
    (l.graph.nodes ≡ l.initial.graph.nodes)
    × (with_front l.graph.links (each (link_of (length l.initial.graph.nodes)) BadLink l.k (items_view (drop l.k l.edges))) ≡ each (link_of (length l.initial.graph.nodes)) BadLink 0 (items_view l.edges))
