-- What a graph keeps beside its lists fits them.
use Rattle.std.specs.Prelude.{◌≡◌, ◌<◌, ◌==◌, ◌&&◌, not, ℕ, zero, suc, List, [], ◌∷◌, length, filter, slice_get, Some}
use Rattle.hg_graph.specs.Graph.{Graph, Port, Ports, IsGraph, numbers, parent_at}
use Rattle.hg_graph.specs.NodeIndex.{NodeIndex, node_index, with_input, with_output, with_before, with_after}

pub record IsIndexed (g : Graph) (indexes : List NodeIndex) : Type 0 where
  pub graph : IsGraph g
  pub count : length indexes ≡ length g.nodes
  pub each : (n : ℕ) → n < length g.nodes → slice_get indexes n ≡ Some (node_index g n)

-- what is kept of node n, changed
abbrev pub updated : ℕ → (NodeIndex → NodeIndex) → List NodeIndex → List NodeIndex
updated n f [] = []
updated zero f (index ∷ indexes) = f index ∷ indexes
updated (suc n) f (index ∷ indexes) = index ∷ updated n f indexes

-- with link number k, which leads from a port to a port, or only says which of two nodes comes first
abbrev pub with_ports : Port → Port → ℕ → List NodeIndex → List NodeIndex
with_ports a b k indexes = updated b.node (with_input b.index (Ports a b) k) (updated a.node (with_output a.index k) indexes)

abbrev pub with_order : ℕ → ℕ → ℕ → List NodeIndex → List NodeIndex
with_order a b k indexes = updated b (with_before k) (updated a (with_after k) indexes)

-- what is kept of node c, with only the children below n
abbrev pub index_below : Graph → ℕ → ℕ → NodeIndex
index_below g n c = record (node_index g c) { children = filter (λ m. parent_at g m == c && not (m == c)) (numbers 0 n) }

pub record IsFilled (g : Graph) (n : ℕ) (indexes : List NodeIndex) : Type 0 where
  pub count : length indexes ≡ length g.nodes
  pub each : (c : ℕ) → c < length g.nodes → slice_get indexes c ≡ Some (index_below g n c)
