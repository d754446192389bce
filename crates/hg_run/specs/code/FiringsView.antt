-- What contracts see of what has fired.
use Rattle.std.specs.Prelude.{◌≡◌, ℕ, ◌<◌, List, length, map, reverse, slice_get, Option, Some, None}
use Rattle.std.specs.Ordering.{nat_cmp}
use Rattle.std.specs.BTreeMap.{BTreeMap, get}
use Rattle.hg_run.specs.declared.firings.Fired.{Fired as DeclaredFired}
use Rattle.hg_run.specs.declared.firings.Firings.TheInside as inside_firings
use Rattle.hg_graph.specs.Run.{Fired, outs_at}
use Rattle.hg_graph.specs.Value.{Value}

abbrev pub FiredList : Type 0
FiredList = List Fired

abbrev pub fired_view : DeclaredFired → Fired
fired_view f = record { node = f.node.0; outs = f.outs }

-- the newest first
abbrev pub fired_list : List DeclaredFired → List Fired
fired_list fired = reverse (map fired_view fired)

abbrev pub firings_view : inside_firings.Inside → List Fired
firings_view f = fired_list f.list.items

abbrev pub outs_in : Option DeclaredFired → Option (List Value)
outs_in None = None
outs_in (Some f) = Some f.outs

-- what stands at a place
abbrev pub outs_there : List DeclaredFired → Option ℕ → Option (List Value)
outs_there fired None = None
outs_there fired (Some k) = outs_in (slice_get fired k)

abbrev pub IsWithin : ℕ → Option ℕ → Type 0
IsWithin count None = Unit {0}
IsWithin count (Some k) = k < count

-- the map has the place of each node's newest firing
pub record ArePlaces (fired : List DeclaredFired) (places : BTreeMap ℕ ℕ) : Type 0 where
  pub within : (n : ℕ) → IsWithin (length fired) (get nat_cmp places n)
  pub outs : (n : ℕ) → outs_at (fired_list fired) n ≡ outs_there fired (get nat_cmp places n)

abbrev pub IsPlaced : inside_firings.Inside → Type 0
IsPlaced f = ArePlaces f.list.items f.places
