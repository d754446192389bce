-- The nodes to which each node of a graph leads, along value and order links.
use Rattle.std.specs.Prelude.{◌≡◌, ℕ, ◌<◌, List, length, slice_get, Option, Some, None}
use Rattle.hg_ops.specs.Op.{ins_of}
use Rattle.hg_graph.specs.Graph.{Graph, Link, Ports, Order, op_at}
use Rattle.hg_graph.specs.Valid.{Edge}
use Rattle.walks.specs.Walks.{Leads}

-- there is a link, and it is a value link or an order link from node a to node b
abbrev pub Joins : Graph → Option Link → ℕ → ℕ → Type 0
Joins g None a b = ⊥
Joins g (Some (Ports from to)) a b = (from.node ≡ a) × (to.node ≡ b) × (to.index < length (ins_of (op_at g to.node)))
Joins g (Some (Order before after)) a b = (before ≡ a) × (after ≡ b)

-- a list for each node, with the nodes to which a link leads from it
pub record AreSuccessors (g : Graph) (lists : List (List ℕ)) : Type 0 where
  pub count : length lists ≡ length g.nodes
  pub edges : (a b : ℕ) → Leads lists a b → Edge g a b
  pub all : (a b : ℕ) → Edge g a b → Leads lists a b

-- the same, of the first k links
pub record HasEdges (g : Graph) (k : ℕ) (lists : List (List ℕ)) : Type 0 where
  pub count : length lists ≡ length g.nodes
  pub edges : (a b : ℕ) → Leads lists a b → Edge g a b
  pub below : (j : ℕ) → j < k → (a b : ℕ) → Joins g (slice_get g.links j) a b → Leads lists a b
