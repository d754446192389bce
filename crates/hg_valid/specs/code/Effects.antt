-- Which nodes are effect nodes.
use Rattle.std.specs.Prelude.{◌≡◌, ℕ, ◌<◌, ◌≤◌, Bool, true, List, length}
use Rattle.hg_ops.specs.Op.{is_effect}
use Rattle.hg_graph.specs.Graph.{Graph, op_at, parent_at}
use Rattle.hg_graph.specs.Ordered.{HasEffect}
use Rattle.walks.specs.Counts.{is_marked}

-- a mark for each node, which says whether it is an effect node
pub record AreEffects (g : Graph) (marks : List Bool) : Type 0 where
  pub count : length marks ≡ length g.nodes
  pub effects : (n : ℕ) → is_marked marks n ≡ true → HasEffect g n
  pub all : (n : ℕ) → n < length g.nodes → HasEffect g n → is_marked marks n ≡ true

-- of the nodes from `first` on, each that is marked has a marked parent
pub record AreCarried (g : Graph) (first : ℕ) (marks : List Bool) : Type 0 where
  pub count : length marks ≡ length g.nodes
  pub effects : (n : ℕ) → is_marked marks n ≡ true → HasEffect g n
  pub own : (n : ℕ) → n < length g.nodes → is_effect (op_at g n) ≡ true → is_marked marks n ≡ true
  pub carried : (n : ℕ) → first ≤ n → n < length g.nodes → is_marked marks n ≡ true → is_marked marks (parent_at g n) ≡ true
