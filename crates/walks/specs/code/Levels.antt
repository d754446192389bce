-- Levels of nodes.
use Rattle.std.specs.Prelude.{ℕ, ◌<◌, ◌≤◌, List, length, slice_index}
use Rattle.walks.specs.Walks.{Leads, Walk}

-- from the nodes below n no link leads to a higher level
pub record NeverRises (lists : List (List ℕ)) (levels : List ℕ) (n : ℕ) : Type 0 where
  pub each : (a b : ℕ) → a < n → Leads lists a b → slice_index levels b ≤ slice_index levels a

-- from the nodes below n each link leads to a lower level
pub record FallsBelow (lists : List (List ℕ)) (levels : List ℕ) (n : ℕ) : Type 0 where
  pub each : (a b : ℕ) → a < n → Leads lists a b → slice_index levels b < slice_index levels a

-- no walk leads from a node before this one back to it
pub record NoneBefore (lists : List (List ℕ)) (n : ℕ) : Type 0 where
  pub is_node : n < length lists
  pub none_before : (m : ℕ) → m < n → Walk lists m m → ⊥
