-- What contracts see of a set of places, and the tree of counts behind it.
use Rattle.std.specs.Prelude.{◌≡◌, ℕ, ◌+◌, ◌-◌, ◌*◌, ◌^◌, ◌<◌, ◌≤◌, Bool, true, false, if◌then◌else◌, nat_lt, List, [], ◌∷◌, length, slice_index_or}
use Rattle.hg_run.specs.declared.counted_set.CountedSet.TheInside as inside_set

abbrev pub flags_view : inside_set.Inside → List Bool
flags_view s = s.flags.items

abbrev pub one_if : Bool → ℕ
one_if true = 1
one_if false = 0

-- how many flags are set
abbrev pub ones : List Bool → ℕ
ones [] = 0
ones (flag ∷ flags) = one_if flag + ones flags

-- the count at an inner node, or the flag past them
abbrev pub count_at : List Bool → List ℕ → ℕ → ℕ
count_at flags counts k =
    if nat_lt k (length counts) then slice_index_or counts k 0 else one_if (slice_index_or flags (k - length counts) false)

-- a node has what its children have
abbrev pub IsSumAt : List Bool → List ℕ → ℕ → Type 0
IsSumAt flags counts k = slice_index_or counts k 0 ≡ count_at flags counts (2 * k) + count_at flags counts (2 * k + 1)

-- each inner node has, but for the one at a place
abbrev pub AreSumsBut : List Bool → List ℕ → ℕ → Type 0
AreSumsBut flags counts k = (q : ℕ) → 0 < q → q < length counts → (q ≡ k → ⊥) → IsSumAt flags counts q

-- the tree has the counts of the flags
pub record IsTree (flags : List Bool) (counts : List ℕ) (depth : ℕ) : Type 0 where
  pub width : length counts ≡ 2 ^ depth
  pub wide : length flags ≤ length counts
  -- the one at 0 is not used
  pub sums : AreSumsBut flags counts 0

abbrev pub IsCounted : inside_set.Inside → Type 0
IsCounted s = IsTree s.flags.items s.counts.items s.depth
