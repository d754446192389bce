-- The search for the nodes that walks from a node lead to.
use Rattle.std.specs.Prelude.{◌≡◌, ℕ, ◌<◌, ◌≤◌, Bool, true, List, length, slice_index, count_by}
use Rattle.walks.specs.Walks.{Leads, Walk}
use Rattle.walks.specs.Counts.{is_marked}

-- The nodes that have been reached from the start are marked, and listed in the order in which they were.
pub record IsReach (lists : List (List ℕ)) (start : ℕ) (reached : List Bool) (nodes : List ℕ) : Type 0 where
  pub count : length reached ≡ length lists
  pub tally : count_by (λ b. b) reached ≡ length nodes
  pub walks : (n : ℕ) → is_marked reached n ≡ true → Walk lists start n
  pub listed : (n : ℕ) → is_marked reached n ≡ true → (i : ℕ) × (i < length nodes) × (slice_index nodes i ≡ n)
  pub marked : (i : ℕ) → i < length nodes → is_marked reached (slice_index nodes i) ≡ true

-- more nodes have been reached
pub record HasGrown (old_reached reached : List Bool) (old_nodes nodes : List ℕ) : Type 0 where
  pub kept : (n : ℕ) → is_marked old_reached n ≡ true → is_marked reached n ≡ true
  pub longer : length old_nodes ≤ length nodes
  pub same : (i : ℕ) → i < length old_nodes → slice_index nodes i ≡ slice_index old_nodes i

-- all nodes to which a node leads have been reached
pub record HasFollowed (lists : List (List ℕ)) (start node : ℕ) (old_reached reached : List Bool) (old_nodes nodes : List ℕ) : Type 0 where
  pub reach : IsReach lists start reached nodes
  pub grown : HasGrown old_reached reached old_nodes nodes
  pub all : (b : ℕ) → Leads lists node b → is_marked reached b ≡ true
