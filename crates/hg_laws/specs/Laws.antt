-- What holds of all runs.
use Rattle.std.specs.Prelude.{◌≡◌, ◌≢◌, ◌↔◌, ◌⊎◌, ℕ, suc, ◌<◌, ◌≤◌, Bool, true, false, List, [], ◌∷◌, length, Some}
use Rattle.gp_base.specs.Clean.{IsCleanBetween, world_after}
use Rattle.gp_base.specs.Run.{Out, Returned, Stopped, Stuck, ◌>>=◌}
use Rattle.gp_base.specs.World.{World, start, is_live}
use Rattle.hg_ops.specs.GraphType.{GraphType, is_linear, function_type}
use Rattle.hg_ops.specs.Op.{Types, FuncDefn, ins_of, outs_of, inner_ins, inner_outs, is_dataflow_container, takes_turn}
use Rattle.gp_base.specs.Membership.{In}
use Rattle.hg_graph.specs.Graph.{Graph, IsGraph, op_at, firing_children}
use Rattle.hg_graph.specs.Moments.{HasOnePlace, EachMoment, IsProper, ReturnsItsQubits, EndsWell, IsPartway, noted_run, notes_of}
use Rattle.hg_graph.specs.Ordered.{IsOrdered}
use Rattle.hg_graph.specs.Run.{Fired, Open, outs_at, inputs, Ready, ready, State, Enter, no_note, after_turn, fire, firings, enter_op, level, resume, runs, world_out, graph_run}
use Rattle.hg_graph.specs.Valid.{Rule, IsValid, IsBroken, HasBoundary}
use Rattle.hg_graph.specs.Value.{Value, Function, HasType, HaveTypes, functions, callee}

-- In a valid graph, whoever wrote it, under any picks and from proper arguments, each qubit has one place at each moment.
abbrev pub ValidGraphsKeepPlaces : Type 0
ValidGraphsKeepPlaces =
    (g : Graph) → IsValid g → (f : ℕ) (arguments : List Value) (w : World) → IsProper g f arguments w → (picks : List ℕ)
    → EachMoment (HasOnePlace g w arguments) (notes_of (noted_run g f arguments w picks))

-- The run that writes its moments down is the plain run, of whatever graph.
abbrev pub MomentsChangeNothing : Type 0
MomentsChangeNothing =
    (g : Graph) (f : ℕ) (arguments : List Value) (w : World) (picks : List ℕ)
    → world_out (noted_run g f arguments w picks) ≡ graph_run g f arguments w picks

-- No end of such a run is stuck, and where it returns its outputs have the qubits that are live.
abbrev pub ValidGraphsEndWell : Type 0
ValidGraphsEndWell =
    (g : Graph) → IsValid g → (f : ℕ) (arguments : List Value) (w : World) (proper : IsProper g f arguments w) (picks : List ℕ)
    → EndsWell (ReturnsItsQubits g w arguments proper.outs) (graph_run g f arguments w picks)

-- The events of a run are clean from its world and leave the flags of the world after it, of whatever graph.
abbrev pub RunsAreClean : Type 0
RunsAreClean =
    (g : Graph) (f : ℕ) (arguments : List Value) (w : World) (picks : List ℕ) → IsCleanBetween w (world_after (graph_run g f arguments w picks))

-- A function without inputs and without a linear output, run from the start, holds no qubit where it returns.
abbrev pub ClosedRunsHoldNone : Type 0
ClosedRunsHoldNone =
    (g : Graph) → IsValid g → (f : ℕ) (name : List ℕ) (outs : Types) → f < length g.nodes → op_at g f ≡ FuncDefn name [] outs
    → ((type : GraphType) → In type outs → is_linear type ≡ false) → (turns : ℕ) (outcomes : List Bool) (picks : List ℕ) (returned : List Value) (w : World)
    → graph_run g f [] (start turns outcomes) picks ≡ Returned returned w → (q : ℕ) → is_live w.flags q ≡ false

-- In a valid ordered graph the run under any picks is the run under none.
abbrev pub PicksChangeNothing : Type 0
PicksChangeNothing =
    (g : Graph) → IsValid g → IsOrdered g → (f : ℕ) (arguments : List Value) (w : World) → IsProper g f arguments w → (picks : List ℕ)
    → graph_run g f arguments w picks ≡ graph_run g f arguments w []

-- More turns and a greater depth change no run of a valid graph.
abbrev pub BoundsSuffice : Type 0
BoundsSuffice =
    (g : Graph) → IsValid g → (turns depth n : ℕ) (outer : List Open) (vs : List Value) (s : State (Unit {0}))
    → s.world.turns ≤ turns → length g.nodes ≤ depth → level no_note g (resume no_note g turns) depth outer n vs s ≡ runs no_note g outer n vs s

-- A run of a valid graph is what its node does with the runs of further nodes.
abbrev pub RunsUnfold : Type 0
RunsUnfold =
    (g : Graph) → IsValid g → (outer : List Open) (n : ℕ) (vs : List Value) (s : State (Unit {0}))
    → runs no_note g outer n vs s ≡ enter_op no_note g (runs no_note g) (runs no_note g) (op_at g n) outer n vs s

-- In a valid ordered graph a region may be run by firing any ready node first.
abbrev pub AnyReadyFirst : Type 0
AnyReadyFirst =
    (g : Graph) → IsValid g → IsOrdered g → (c : ℕ) → c < length g.nodes → is_dataflow_container (op_at g c) ≡ true
    → (boundary : HasBoundary g c) (count : ℕ) (fired : List Fired) (r : Ready) → IsPartway g c boundary.input (outs_at fired) (suc count) → In r (ready g c (outs_at fired))
    → (outer others : List Open) (s t : State (Unit {0})) → s.world ≡ t.world
    → world_out (firings no_note g (fire no_note g (runs no_note g) (runs no_note g)) outer c boundary.output (suc count) fired s)
    ≡ world_out ((fire no_note g (runs no_note g) (runs no_note g) others r.node r.ins
    >>= (λ outs. firings no_note g (fire no_note g (runs no_note g) (runs no_note g)) outer c boundary.output count (record { node = r.node; outs = outs } ∷ fired))) t)

-- No more than one rule and one node are the least that is broken, and none is in a valid graph.
pub record OneIsBroken : Type 0 where
  pub one : (g : Graph) (rule other : Rule) (n m : ℕ) → IsBroken g rule n → IsBroken g other m → (rule ≡ other) × (n ≡ m)
  pub none : (g : Graph) (rule : Rule) (n : ℕ) → IsValid g → IsBroken g rule n → ⊥

-- An indirect call finds a function, of whatever graph, exactly where the value is of the function's type, and then the
-- function has the value's name and the types of the call.
abbrev pub CalleesAreTyped : Type 0
CalleesAreTyped =
    (g : Graph) (name : List ℕ) (ins outs : Types)
    → HasType (functions g) (Function name) (function_type ins outs) ↔ ((f : ℕ) × (callee g ins outs name ≡ Some f) × (op_at g f ≡ FuncDefn name ins outs))

-- A firing is stuck before anything happens, or takes a turn and then runs some node on some values.
abbrev pub TakesTurn : Enter (Unit {0}) → List Open → State (Unit {0}) → Out (State (Unit {0})) (List Value) → Type 0
TakesTurn again outer s fired =
    (fired ≡ Stopped Stuck s) ⊎ ((f : ℕ) × (vs : List Value) × (fired ≡ after_turn again outer f vs s))

-- Of whatever graph, the ops that take a turn each time that they fire are those that are said to.
pub record CallsTakeTurns : Type 0 where
  pub calls : (g : Graph) (inside again : Enter (Unit {0})) (outer : List Open) (n : ℕ) (vs : List Value) (s : State (Unit {0}))
      → takes_turn (op_at g n) ≡ true → TakesTurn again outer s (fire no_note g inside again outer n vs s)
  pub others : (g : Graph) (inside again other : Enter (Unit {0})) (outer : List Open) (n : ℕ) (vs : List Value) (s : State (Unit {0}))
      → takes_turn (op_at g n) ≡ false → fire no_note g inside again outer n vs s ≡ fire no_note g inside other outer n vs s

-- Each graph, whoever wrote it, is valid, or has a least rule that is broken and a least node that breaks it.
abbrev pub ValidOrBroken : Type 0
ValidOrBroken = (g : Graph) → IsGraph g → IsValid g ⊎ ((rule : Rule) × (n : ℕ) × IsBroken g rule n)

-- What a region of a valid graph goes through as its children fire one by one: it begins partway, each firing that gives
-- values of its types keeps it so with one child fewer to fire, something is ready while a child is to fire, and in the
-- end `Output` has values of its types.
pub record RegionsGoOn (g : Graph) (c : ℕ) (boundary : HasBoundary g c) : Type 0 where
  pub begins : (arguments : List Value) → HaveTypes (functions g) arguments (inner_ins (op_at g c))
      → IsPartway g c boundary.input (outs_at (record { node = boundary.input; outs = arguments } ∷ [])) (length (firing_children g c))
  pub takes : (count : ℕ) (fired : List Fired) (r : Ready) → IsPartway g c boundary.input (outs_at fired) (suc count) → In r (ready g c (outs_at fired))
      → HaveTypes (functions g) r.ins (ins_of (op_at g r.node))
  pub fires : (count : ℕ) (fired : List Fired) (r : Ready) (outs : List Value) → IsPartway g c boundary.input (outs_at fired) (suc count) → In r (ready g c (outs_at fired))
      → HaveTypes (functions g) outs (outs_of (op_at g r.node)) → IsPartway g c boundary.input (outs_at (record { node = r.node; outs = outs } ∷ fired)) count
  pub goes_on : (count : ℕ) (fired : List Fired) → IsPartway g c boundary.input (outs_at fired) (suc count) → ready g c (outs_at fired) ≢ []
  pub ends : (fired : List Fired) → IsPartway g c boundary.input (outs_at fired) 0
      → (returned : List Value) × (inputs g (outs_at fired) boundary.output ≡ Some returned) × HaveTypes (functions g) returned (inner_outs (op_at g c))

abbrev pub ValidRegionsGoOn : Type 0
ValidRegionsGoOn =
    (g : Graph) → IsValid g → (c : ℕ) → c < length g.nodes → is_dataflow_container (op_at g c) ≡ true → (boundary : HasBoundary g c) → RegionsGoOn g c boundary
