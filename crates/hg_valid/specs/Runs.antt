-- What holds of the runs of one graph.
use Rattle.std.specs.Prelude.{◌≡◌, ℕ, ◌<◌, Bool, false, List, [], length}
use Rattle.gp_base.specs.Clean.{IsCleanBetween, world_after}
use Rattle.gp_base.specs.Run.{Returned}
use Rattle.gp_base.specs.World.{World, start, is_live}
use Rattle.hg_ops.specs.GraphType.{GraphType, is_linear}
use Rattle.hg_ops.specs.Op.{Types, FuncDefn}
use Rattle.gp_base.specs.Membership.{In}
use Rattle.hg_graph.specs.Graph.{Graph, op_at}
use Rattle.hg_graph.specs.Moments.{HasOnePlace, EachMoment, IsProper, ReturnsItsQubits, EndsWell, noted_run, notes_of}
use Rattle.hg_graph.specs.Run.{graph_run}
use Rattle.hg_graph.specs.Value.{Value}

-- Under any picks and from proper arguments, at each moment each qubit has one place.
abbrev pub KeepsPlaces : Graph → Type 0
KeepsPlaces g =
    (f : ℕ) (arguments : List Value) (w : World) → IsProper g f arguments w → (picks : List ℕ)
    → EachMoment (HasOnePlace g w arguments) (notes_of (noted_run g f arguments w picks))

-- No end of such a run is stuck, and where it returns its outputs have the qubits that are live.
abbrev pub RunsEndWell : Graph → Type 0
RunsEndWell g =
    (f : ℕ) (arguments : List Value) (w : World) (proper : IsProper g f arguments w) (picks : List ℕ)
    → EndsWell (ReturnsItsQubits g w arguments proper.outs) (graph_run g f arguments w picks)

-- The events of a run are clean from its world, and leave the flags of the world after it.
abbrev pub HasCleanRuns : Graph → Type 0
HasCleanRuns g = (f : ℕ) (arguments : List Value) (w : World) (picks : List ℕ) → IsCleanBetween w (world_after (graph_run g f arguments w picks))

-- A function without inputs and without a linear output, run from the start, holds no qubit where it returns.
abbrev pub ClosedRunsHoldNone : Graph → Type 0
ClosedRunsHoldNone g =
    (f : ℕ) (name : List ℕ) (outs : Types) → f < length g.nodes → op_at g f ≡ FuncDefn name [] outs
    → ((type : GraphType) → In type outs → is_linear type ≡ false) → (turns : ℕ) (outcomes : List Bool) (picks : List ℕ) (returned : List Value) (w : World)
    → graph_run g f [] (start turns outcomes) picks ≡ Returned returned w → (q : ℕ) → is_live w.flags q ≡ false
