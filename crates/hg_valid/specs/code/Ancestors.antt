-- Steps up from nodes to their ancestors.
use Rattle.std.specs.Prelude.{◌≡◌, ◌⊎◌, ℕ, List, length, slice_get, Some}
use Rattle.hg_graph.specs.Graph.{Graph}
use Rattle.hg_graph.specs.Valid.{IsAncestor}
use Rattle.hg_valid.specs.declared.ancestors.Jump.{Jump}

-- each step leads from the node of its place to an ancestor of it
abbrev pub LeadUp : Graph → List Jump → Type 0
LeadUp g jumps = (n : ℕ) (jump : Jump) → slice_get jumps n ≡ Some jump → IsAncestor g jump.to.0 n

-- such steps for the first nodes
pub record AreJumps (g : Graph) (count : ℕ) (jumps : List Jump) : Type 0 where
  pub count_is : length jumps ≡ count
  pub lead_up : LeadUp g jumps

-- node a is node n or an ancestor of it
abbrev pub IsAtOrAbove : Graph → ℕ → ℕ → Type 0
IsAtOrAbove g a n = (a ≡ n) ⊎ IsAncestor g a n
