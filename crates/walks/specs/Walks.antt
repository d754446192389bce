-- Walks over lists of successors: the list at place a has the nodes to which node a leads.
use Rattle.std.specs.Prelude.{ℕ, ◌<◌, List, [], ◌∷◌, length, slice_index_or}
use Rattle.gp_base.specs.Membership.{In}

-- the nodes to which a node leads
abbrev pub row : List (List ℕ) → ℕ → List ℕ
row lists a = slice_index_or lists a []

abbrev pub Leads : List (List ℕ) → ℕ → ℕ → Type 0
Leads lists a b = In b (row lists a)

-- from node to node, at least once
pub data Walk (lists : List (List ℕ)) : ℕ → ℕ → Type 0 where
  once : {a b : ℕ} → Leads lists a b → Walk lists a b
  first : {a b c : ℕ} → Leads lists a b → Walk lists b c → Walk lists a c

-- from a node by way of these nodes in turn, or, with none, staying there
abbrev pub WalkBy : List (List ℕ) → ℕ → List ℕ → Type 0
WalkBy lists a [] = Unit {0}
WalkBy lists a (b ∷ nodes) = Leads lists a b × WalkBy lists b nodes

-- each node leads to nodes that there are
pub record IsClosed (lists : List (List ℕ)) : Type 0 where
  pub within : (a b : ℕ) → Leads lists a b → b < length lists
