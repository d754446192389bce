-- The greatest number of marked nodes on a walk from each node.
use Rattle.std.specs.Prelude.{◌≡◌, ℕ, ◌+◌, ◌<◌, ◌≤◌, Bool, false, List, [], ◌∷◌, length, slice_index, slice_index_or, if◌then◌else◌}
use Rattle.walks.specs.Walks.{WalkBy}

abbrev pub is_marked : List Bool → ℕ → Bool
is_marked marks n = slice_index_or marks n false

-- 1 for a marked node
abbrev pub mark : List Bool → ℕ → ℕ
mark marks n = if is_marked marks n then 1 else 0

-- how many of these nodes are marked
abbrev pub marked_count : List Bool → List ℕ → ℕ
marked_count marks [] = 0
marked_count marks (n ∷ nodes) = mark marks n + marked_count marks nodes

-- Some walk from the node meets so many marked nodes, the node itself among them, and none meets more.
pub record IsCounted (lists : List (List ℕ)) (marks : List Bool) (n count : ℕ) : Type 0 where
  pub nodes : List ℕ
  pub walk : WalkBy lists n nodes
  pub meets : marked_count marks (n ∷ nodes) ≡ count
  pub most : (others : List ℕ) → WalkBy lists n others → marked_count marks (n ∷ others) ≤ count

-- the counts of all nodes, none above the number of nodes
pub record AreCounted (lists : List (List ℕ)) (marks : List Bool) (counts : List ℕ) : Type 0 where
  pub count : length counts ≡ length lists
  pub each : (n : ℕ) → n < length lists → IsCounted lists marks n (slice_index counts n)
  pub few : (n : ℕ) → n < length lists → slice_index counts n ≤ length lists
