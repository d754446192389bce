use Rattle.std.proofs.Common.{◌≡◌, ℕ, ◌<◌, List, length, map, drop}
use Rattle.std.specs.List.{All}
use Rattle.serde_json.specs.View.{items_view}
use Rattle.serde_json.specs.declared.value.Value.{Value}
use Rattle.hg_graph.specs.declared.graph.Node.{Node}
use Rattle.hg_graph.specs.NodeView.{node_view}
use Rattle.hg_json.specs.Reading.{BadNode, node_of, each}
use Rattle.hg_json.specs.declared.profile.Profile.{Profile}
use Rattle.hg_json.proofs.Turns.{with_front}
use Rattle.hg_json.proofs.reading.nodes_of.Given as goal

-- the nodes of the entries before entry k are followed by those of the rest
pub record AreReadSoFar (profile : Profile) (total k : ℕ) (nodes : List Node) (entries : List Value) : Type 0 where
  pub many : length nodes ≡ k
  pub parents_in : All (λ node. node.parent.0 < total) nodes
  pub so_far : with_front (map node_view nodes) (each (node_of profile total) BadNode k (items_view (drop k entries))) ≡ each (node_of profile total) BadNode 0 (items_view entries)

abbrev pub invariant-loop-k : goal.invariant-loop-k
invariant-loop-k l = AreReadSoFar l.profile l.total l.k l.nodes l.entries
