-- Which children of a region are ready to fire, kept as a set of their places.
use Rattle.std.specs.Prelude.{◌≡◌, ℕ, Bool, true, false, not, ◌&&◌, ◌||◌, ◌==◌, if◌then◌else◌, List, [], ◌∷◌, ◌++◌, length, replicate, take, slice_get, slice_index_or, slice_set, Option, Some, None}
use Rattle.gp_base.specs.Membership.{In}
use Rattle.hg_graph.specs.Graph.{Graph, Link, Ports, Order, children}
use Rattle.hg_graph.specs.Run.{Look}
use Rattle.hg_graph.specs.declared.link.NodeId.{NodeId}
use Rattle.hg_steps.specs.Counters.{source_of}
use Rattle.hg_run.specs.code.CountedSetView.{ones}
use Rattle.hg_run.specs.code.StateView.{place_of}
use Rattle.hg_run.specs.code.Waits.{is_due, value_came, order_came, HaveSeen}
use Rattle.hg_run.specs.declared.state.Dues.{Dues}

-- the node is in the list
abbrev pub is_among : ℕ → List NodeId → Bool
is_among n [] = false
is_among n (m ∷ nodes) = m.0 == n || is_among n nodes

-- a flag for each child, right by a test but maybe at some nodes
pub record AreFlags (g : Graph) (c : ℕ) (test : ℕ → Bool) (nodes : List NodeId) (flags : List Bool) : Type 0 where
  pub all : length flags ≡ length (children g c)
  pub at : (p n : ℕ) → slice_get (children g c) p ≡ Some n → is_among n nodes ≡ false → slice_index_or flags p false ≡ test n

-- the set has the children that are due, but maybe not at some nodes
abbrev pub HasDuesBeside : Graph → ℕ → Look → List NodeId → List Bool → Type 0
HasDuesBeside g c look nodes flags = AreFlags g c (is_due g look) nodes flags

abbrev pub HasDues : Graph → ℕ → Look → List Bool → Type 0
HasDues g c look flags = HasDuesBeside g c look [] flags

abbrev pub is_other_due : Graph → Look → ℕ → ℕ → Bool
is_other_due g look running n = not (running == n) && is_due g look n

-- the set has the children that are due, but for the one that runs
abbrev pub HasOtherDues : Graph → ℕ → Look → ℕ → List Bool → Type 0
HasOtherDues g c look running flags = AreFlags g c (is_other_due g look running) [] flags

-- the place of a node among the children
abbrev pub IsPlace : Graph → ℕ → ℕ → Option ℕ → Type 0
IsPlace g c n None = (p : ℕ) → slice_get (children g c) p ≡ Some n → ⊥
IsPlace g c n (Some place) = (slice_get (children g c) place ≡ Some n) × ((p : ℕ) → slice_get (children g c) p ≡ Some n → p ≡ place)

-- the flag of one node has been made right
pub record Refreshes (g : Graph) (c : ℕ) (look : Look) (node : ℕ) (before after : List Bool) : Type 0 where
  pub all : length after ≡ length before
  pub at : (p n : ℕ) → slice_get (children g c) p ≡ Some n → slice_index_or after p false ≡ (if node == n then is_due g look n else slice_index_or before p false)

-- what is known to have come to the children has come
pub record IsSeen (g : Graph) (c : ℕ) (look : Look) (dues : Dues) : Type 0 where
  pub values : HaveSeen g c (value_came g look) dues.values.items
  pub orders : HaveSeen g c (order_came g look) dues.orders.items

-- all is right about the children, but maybe not at some nodes
pub record KnowsDuesBeside (g : Graph) (c : ℕ) (look : Look) (nodes : List NodeId) (dues : Dues) : Type 0 where
  pub ready : HasDuesBeside g c look nodes dues.ready
  pub seen : IsSeen g c look dues

abbrev pub KnowsDues : Graph → ℕ → Look → Dues → Type 0
KnowsDues g c look dues = KnowsDuesBeside g c look [] dues

-- all is right, but that the child that runs is left out
pub record KnowsOtherDues (g : Graph) (c : ℕ) (look : Look) (running : ℕ) (dues : Dues) : Type 0 where
  pub ready : HasOtherDues g c look running dues.ready
  pub seen : IsSeen g c look dues
  pub first : look running ≡ None

-- nothing is known yet of so many children
pub record AreNone (count : ℕ) (dues : Dues) : Type 0 where
  pub ready : dues.ready ≡ replicate count false
  pub values : dues.values.items ≡ replicate count 0
  pub orders : dues.orders.items ≡ replicate count 0

-- a member was taken out, by a pick
pub record Takes (picks : List ℕ) (before : List Bool) (place : ℕ) (left : List Bool) : Type 0 where
  pub member : slice_get before place ≡ Some true
  pub rank : ones (take place before) ≡ place_of picks (ones before)
  pub rest : left ≡ slice_set before place false

abbrev pub target_of : Link → ℕ
target_of (Ports a b) = b.node
target_of (Order a b) = b

abbrev pub followers_at : List (List NodeId) → ℕ → List NodeId
followers_at lists n = slice_index_or lists n []

-- each node to which a link leads is in the list of the node from which it leads
abbrev pub HasFollowers : Graph → List (List NodeId) → Type 0
HasFollowers g lists = (link : Link) → In link g.links → is_among (target_of link) (followers_at lists (source_of link)) ≡ true

-- one more node in a list
abbrev pub with_more : List (List NodeId) → ℕ → NodeId → List (List NodeId)
with_more lists k n = slice_set lists k (slice_index_or lists k [] ++ n ∷ [])
