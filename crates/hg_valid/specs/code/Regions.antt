-- Whether the effect nodes of a region have different counts.
use Rattle.std.specs.Prelude.{◌≡◌, ◌≢◌, ℕ, ◌+◌, ◌<◌, ◌≤◌, Bool, true, List, slice_index}
use Rattle.hg_ops.specs.Op.{is_dataflow_container}
use Rattle.gp_base.specs.Membership.{In}
use Rattle.hg_graph.specs.Graph.{Graph, op_at, children}
use Rattle.walks.specs.Counts.{is_marked}

-- marked children have different counts
pub record AreApart (g : Graph) (c : ℕ) (marks : List Bool) (counts : List ℕ) : Type 0 where
  pub differ : (a b : ℕ) → In a (children g c) → In b (children g c) → is_marked marks a ≡ true → is_marked marks b ≡ true → a ≢ b → slice_index counts a ≢ slice_index counts b

-- two marked children have the same count
pub record HaveSame (g : Graph) (c : ℕ) (marks : List Bool) (counts : List ℕ) : Type 0 where
  pub one : ℕ
  pub other : ℕ
  pub one_in : In one (children g c)
  pub other_in : In other (children g c)
  pub one_marked : is_marked marks one ≡ true
  pub other_marked : is_marked marks other ≡ true
  pub differ : one ≢ other
  pub same : slice_index counts one ≡ slice_index counts other

-- a region with two such children
pub record HasSame (g : Graph) (marks : List Bool) (counts : List ℕ) : Type 0 where
  pub region : ℕ
  pub is_region : is_dataflow_container (op_at g region) ≡ true
  pub children_are : HaveSame g region marks counts

-- the regions below c have none
pub record ApartBelow (g : Graph) (c : ℕ) (marks : List Bool) (counts : List ℕ) : Type 0 where
  pub each : (r : ℕ) → r < c → is_dataflow_container (op_at g r) ≡ true → AreApart g r marks counts

-- child number k
abbrev pub child_at : Graph → ℕ → ℕ → ℕ
child_at g c k = slice_index (children g c) k

-- For each count the last region is written down, plus 1, in which a marked child of that count was seen. Of region c the
-- first k children have been seen, and no two of them have the same count.
pub record IsSeen (g : Graph) (c k : ℕ) (marks : List Bool) (counts seen : List ℕ) : Type 0 where
  pub earlier : (i : ℕ) → slice_index seen i ≤ c + 1
  pub written : (j : ℕ) → j < k → is_marked marks (child_at g c j) ≡ true → slice_index seen (slice_index counts (child_at g c j)) ≡ c + 1
  pub had : (i : ℕ) → slice_index seen i ≡ c + 1 → (j : ℕ) × (j < k) × (is_marked marks (child_at g c j) ≡ true) × (slice_index counts (child_at g c j) ≡ i)
  pub differ : (i j : ℕ) → i < j → j < k → is_marked marks (child_at g c i) ≡ true → is_marked marks (child_at g c j) ≡ true
      → slice_index counts (child_at g c i) ≢ slice_index counts (child_at g c j)
