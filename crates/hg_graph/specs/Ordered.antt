-- Ordered graphs.
use Rattle.std.specs.Prelude.{◌≡◌, ◌≢◌, ◌⊎◌, ℕ, true}
use Rattle.hg_ops.specs.Op.{is_dataflow_container, is_effect}
use Rattle.gp_base.specs.Membership.{In}
use Rattle.hg_graph.specs.Graph.{Graph, op_at, children, firing_children}
use Rattle.hg_graph.specs.Valid.{Path}

-- an effect node: one with an effect op, or with an effect op somewhere inside it
pub data HasEffect (g : Graph) : ℕ → Type 0 where
  own : {n : ℕ} → is_effect (op_at g n) ≡ true → HasEffect g n
  inside : {n m : ℕ} → In m (children g n) → HasEffect g m → HasEffect g n

-- in each region any two effect nodes are joined, one way or the other, by a path of value and order links
abbrev pub IsOrdered : Graph → Type 0
IsOrdered g =
    (c a b : ℕ) → is_dataflow_container (op_at g c) ≡ true → In a (firing_children g c) → In b (firing_children g c)
    → HasEffect g a → HasEffect g b → a ≢ b → Path g a b ⊎ Path g b a
