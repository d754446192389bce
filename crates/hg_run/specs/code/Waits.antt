-- What a child of a region waits for, and what of it has come.
use Rattle.std.specs.Prelude.{◌≡◌, ℕ, ◌<◌, Bool, true, false, not, ◌&&◌, nat_le, List, length, slice_get, slice_index_or, Option, Some, None, is_some}
use Rattle.hg_ops.specs.Op.{ins_of, fires}
use Rattle.hg_graph.specs.Graph.{Graph, Link, op_at, children, feeder}
use Rattle.hg_graph.specs.NodeIndex.{orders_into}
use Rattle.hg_graph.specs.Run.{Look, has_fired, value_of, candidate}
use Rattle.hg_run.specs.code.Orders.{order_at}

-- a child that fires and is ready
abbrev pub is_due : Graph → Look → ℕ → Bool
is_due g look n = fires (op_at g n) && is_some (candidate g look n)

-- a value has come to an input of node n
abbrev pub value_came : Graph → Look → ℕ → ℕ → Bool
value_came g look n i = is_some (value_of look (feeder g.links (record { node = n; index = i })))

abbrev pub link_of : List Link → Option ℕ → Option Link
link_of links None = None
link_of links (Some k) = slice_get links k

-- the source of an order link into node n has fired
abbrev pub order_came : Graph → Look → ℕ → ℕ → Bool
order_came g look n k = order_at look n (link_of g.links (slice_get (orders_into g.links n) k))

abbrev pub input_count_at : Graph → ℕ → ℕ
input_count_at g n = length (ins_of (op_at g n))

abbrev pub order_count_at : Graph → ℕ → ℕ
order_count_at g n = length (orders_into g.links n)

-- a child that fires, hasn't fired and waits for nothing, where so many of its values and of its order links have come
abbrev pub awaits_none : Graph → Look → ℕ → ℕ → ℕ → Bool
awaits_none g look n value order =
    fires (op_at g n) && (not (has_fired look n) && (nat_le (input_count_at g n) value && nat_le (order_count_at g n) order))

-- all before a place have come
abbrev pub HaveCome : (ℕ → Bool) → ℕ → Type 0
HaveCome came k = (i : ℕ) → i < k → came i ≡ true

-- the place of the first that hasn't, or past the last
pub record IsFirstMissing (came : ℕ → Bool) (count k : ℕ) : Type 0 where
  pub before : HaveCome came k
  pub here : k < count → came k ≡ false

abbrev pub IsFirstMissingValue : Graph → Look → ℕ → ℕ → Type 0
IsFirstMissingValue g look n k = IsFirstMissing (value_came g look n) (input_count_at g n) k

abbrev pub IsFirstMissingOrder : Graph → Look → ℕ → ℕ → Type 0
IsFirstMissingOrder g look n k = IsFirstMissing (order_came g look n) (order_count_at g n) k

-- for each child a place before which all have come
pub record HaveSeen (g : Graph) (c : ℕ) (came : ℕ → ℕ → Bool) (seen : List ℕ) : Type 0 where
  pub all : length seen ≡ length (children g c)
  pub at : (p n : ℕ) → slice_get (children g c) p ≡ Some n → HaveCome (came n) (slice_index_or seen p 0)
