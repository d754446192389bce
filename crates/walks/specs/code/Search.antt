-- The search for the greatest counts. Of each node the steps are counted that are left: one to enter it, one for each node
-- to which it leads, from the last to the first, and one to leave it.
use Rattle.std.specs.Prelude.{◌≡◌, ◌≢◌, ℕ, ◌+◌, ◌-◌, sum, ◌<◌, ◌≤◌, ◌==◌, Bool, List, [], length, slice_index, count_by}
use Rattle.walks.specs.Walks.{row, Walk}
use Rattle.walks.specs.Counts.{IsCounted}

-- the node has been entered and not been left
pub record IsOpen (lists : List (List ℕ)) (steps : List ℕ) (n : ℕ) : Type 0 where
  pub is_node : n < length lists
  pub entered : slice_index steps n ≤ length (row lists n) + 1
  pub not_left : 0 < slice_index steps n

-- how many nodes have been left
abbrev pub left_count : List ℕ → ℕ
left_count steps = count_by (λ s. s == 0) steps

-- what is known of a node that has been left
pub record IsLeft (lists : List (List ℕ)) (marks : List Bool) (steps counts : List ℕ) (n : ℕ) : Type 0 where
  pub counted : IsCounted lists marks n (slice_index counts n)
  pub few : slice_index counts n ≤ left_count steps
  pub none_back : Walk lists n n → ⊥

-- The path has the open nodes, each of which leads to the next.
pub record IsSearch (lists : List (List ℕ)) (marks : List Bool) (steps path counts : List ℕ) : Type 0 where
  pub step_count : length steps ≡ length lists
  pub count_count : length counts ≡ length lists
  pub within : (n : ℕ) → slice_index steps n ≤ length (row lists n) + 2
  pub looked : (a k : ℕ) → k < length (row lists a) → slice_index steps a ≤ k + 1 → slice_index steps (slice_index (row lists a) k) ≡ 0
  pub on_path : (n : ℕ) → IsOpen lists steps n → (i : ℕ) × (i < length path) × (slice_index path i ≡ n)
  pub opened : (i : ℕ) → i < length path → IsOpen lists steps (slice_index path i)
  pub apart : (i j : ℕ) → i < j → j < length path → slice_index path i ≢ slice_index path j
  pub walks : (i j : ℕ) → i < j → j < length path → Walk lists (slice_index path i) (slice_index path j)
  pub left : (n : ℕ) → n < length lists → slice_index steps n ≡ 0 → IsLeft lists marks steps counts n

-- the last node of the path
pub record IsLast (path : List ℕ) (n : ℕ) : Type 0 where
  pub some : 0 < length path
  pub last : slice_index path (length path - 1) ≡ n

-- a step has been taken
pub record HasGoneOn (lists : List (List ℕ)) (marks : List Bool) (old steps path counts : List ℕ) : Type 0 where
  pub search : IsSearch lists marks steps path counts
  pub fewer : sum steps < sum old
  pub falls : (n : ℕ) → slice_index steps n ≤ slice_index old n

-- all steps of the root have been taken, and no node is open
pub record HasRun (lists : List (List ℕ)) (marks : List Bool) (old steps path counts : List ℕ) (root : ℕ) : Type 0 where
  pub search : IsSearch lists marks steps path counts
  pub ended : path ≡ []
  pub falls : (n : ℕ) → slice_index steps n ≤ slice_index old n
  pub done : slice_index steps root ≡ 0
