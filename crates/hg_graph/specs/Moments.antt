-- Moments of a run, and what holds at each of them.
use Rattle.std.specs.Prelude.{◌≡◌, ℕ, suc, ◌+◌, ◌<◌, ◌≤◌, leb, ltb, Bool, true, false, not, ◌&&◌, ◌||◌, ◌==◌, if◌then◌else◌, List, [], ◌∷◌, length, filter, Option, Some, None, ◌⊎◌}
use Rattle.gp_base.specs.Run.{Out, Returned, Stopped, TurnsUsed, OutcomesUsed, DivisionByZero, Stuck}
use Rattle.gp_base.specs.World.{World, is_live, next}
use Rattle.hg_ops.specs.GraphType.{GraphType, is_linear}
use Rattle.hg_ops.specs.Op.{Types, FuncDefn, outs_of}
use Rattle.gp_base.specs.Membership.{In}
use Rattle.hg_graph.specs.Graph.{Graph, Link, Port, op_at, firing_children, taker}
use Rattle.hg_graph.specs.Run.{Fired, Open, Look, outs_at, has_fired, Note, State, runs}
use Rattle.hg_graph.specs.Valid.{Edge}
use Rattle.hg_graph.specs.Value.{Value, HaveTypes, functions, uses, uses_all}

-- a moment: the regions that are open, innermost first, and the world
pub record Moment : Type 0 where
  pub regions : List Open
  pub world : World

-- writes each moment down, the newest first
abbrev pub write_down : Note (List Moment)
write_down regions w moments = record { regions = regions; world = w } ∷ moments

-- the run of the function at node f with its moments written down
unfoldable pub noted_run : Graph → ℕ → List Value → World → List ℕ → Out (State (List Moment)) (List Value)
noted_run g f arguments w picks = runs write_down g [] f arguments (record { world = w; picks = picks; notes = [] })

-- ---- open regions

-- the node has fired, or runs
abbrev pub has_read : Look → Option ℕ → ℕ → Bool
has_read look None n = has_fired look n
has_read look (Some m) n = has_fired look n || m == n

-- each node once
abbrev pub FiredOnce : List Fired → Type 0
FiredOnce [] = Unit {0}
FiredOnce (f ∷ fired) = (has_fired (outs_at fired) f.node ≡ false) × FiredOnce fired

abbrev pub HasNotFired : Look → Option ℕ → Type 0
HasNotFired look None = Unit {0}
HasNotFired look (Some m) = has_fired look m ≡ false

-- Each value in the fired list has its port's type. The feeders of each node that has fired or runs are in the list,
-- and so are the sources of its order links. No node stands twice in the list, and a running child doesn't stand in it.
pub record IsGoodOpen (g : Graph) (region : Open) : Type 0 where
  pub typed : (n : ℕ) (outs : List Value) → outs_at region.fired n ≡ Some outs → HaveTypes (functions g) outs (outs_of (op_at g n))
  pub closed : (a b : ℕ) → Edge g a b → has_read (outs_at region.fired) region.running b ≡ true → has_fired (outs_at region.fired) a ≡ true
  pub once : FiredOnce region.fired
  pub running : HasNotFired (outs_at region.fired) region.running

abbrev pub AreGoodOpen : Graph → List Open → Type 0
AreGoodOpen g [] = Unit {0}
AreGoodOpen g (region ∷ regions) = IsGoodOpen g region × AreGoodOpen g regions

-- ---- the qubits at unread linear output ports

-- the target of the link of a port has fired or runs, or there is no link
abbrev pub is_read : Look → Option ℕ → Option Port → Bool
is_read look running None = true
is_read look running (Some to) = has_read look running to.node

-- how often the qubit stands in the values at the unread linear ports of a node, from port p on
abbrev pub at_ports : ℕ → List Link → Look → Option ℕ → ℕ → ℕ → List Value → List GraphType → ℕ
at_ports q links look running n p [] types = 0
at_ports q links look running n p (v ∷ vs) [] = 0
at_ports q links look running n p (v ∷ vs) (type ∷ types) =
    (if is_linear type && not (is_read look running (taker links (record { node = n; index = p }))) then uses q v else 0)
    + at_ports q links look running n (suc p) vs types

abbrev pub at_nodes : ℕ → Graph → Look → Option ℕ → List Fired → ℕ
at_nodes q g look running [] = 0
at_nodes q g look running (f ∷ fired) =
    at_ports q g.links look running f.node 0 f.outs (outs_of (op_at g f.node)) + at_nodes q g look running fired

-- and of all open regions
abbrev pub unread : ℕ → Graph → List Open → ℕ
unread q g [] = 0
unread q g (region ∷ regions) = at_nodes q g (outs_at region.fired) region.running region.fired + unread q g regions

-- ---- what holds of a run

-- a qubit of a run: it came with the arguments, or its number wasn't given away when the run began
abbrev pub is_own : World → List Value → ℕ → Bool
is_own before arguments q = ltb 0 (uses_all q arguments) || leb (next before) q

abbrev pub once_if : Bool → ℕ
once_if b = if b then 1 else 0

-- Each qubit that is live and was allocated in this run or came with its arguments occurs exactly once in the values at
-- unread linear output ports of the open regions, and no other qubit occurs there.
pub record HasOnePlace (g : Graph) (before : World) (arguments : List Value) (moment : Moment) : Type 0 where
  pub regions : AreGoodOpen g moment.regions
  pub places : (q : ℕ) → unread q g moment.regions ≡ once_if (is_live moment.world.flags q && is_own before arguments q)

abbrev pub EachMoment : (Moment → Type 0) → List Moment → Type 0
EachMoment P [] = Unit {0}
EachMoment P (moment ∷ moments) = P moment × EachMoment P moments

-- the arguments have their types, and their qubits are live and stand once in them
pub record IsProper (g : Graph) (f : ℕ) (arguments : List Value) (w : World) : Type 0 where
  pub is_node : f < length g.nodes
  pub name : List ℕ
  pub ins : Types
  pub outs : Types
  pub is_function : op_at g f ≡ FuncDefn name ins outs
  pub typed : HaveTypes (functions g) arguments ins
  pub live : (q : ℕ) → uses_all q arguments ≤ once_if (is_live w.flags q)

-- What is returned has its types. The live qubits of the run are those of its outputs, each of which stands there once,
-- and the other qubits are live where they were.
pub record ReturnsItsQubits (g : Graph) (before : World) (arguments : List Value) (outs : Types) (returned : List Value) (after : World) : Type 0 where
  pub typed : HaveTypes (functions g) returned outs
  pub own : (q : ℕ) → uses_all q returned ≡ once_if (is_live after.flags q && is_own before arguments q)
  pub others : (q : ℕ) → is_own before arguments q ≡ false → is_live after.flags q ≡ is_live before.flags q

-- what holds of the end of a run: it isn't stuck
abbrev pub EndsWell : {A : Type 0} → (A → World → Type 0) → Out World A → Type 0
EndsWell Q (Returned a w) = Q a w
EndsWell Q (Stopped TurnsUsed w) = Unit {0}
EndsWell Q (Stopped OutcomesUsed w) = Unit {0}
EndsWell Q (Stopped DivisionByZero w) = Unit {0}
EndsWell Q (Stopped Stuck w) = ⊥

-- what was written down in a run
abbrev pub notes_of : {N A : Type 0} → Out (State N) A → N
notes_of (Returned a s) = s.notes
notes_of (Stopped e s) = s.notes

-- ---- a region with some children still to fire

abbrev pub yet_to_fire : Look → List ℕ → List ℕ
yet_to_fire look nodes = filter (λ n. not (has_fired look n)) nodes

-- Of the container c with this `Input`, `count` children are still to fire; what has fired is typed, and so is what feeds it.
pub record IsPartway (g : Graph) (c input : ℕ) (look : Look) (count : ℕ) : Type 0 where
  pub within : (n : ℕ) → has_fired look n ≡ true → In n (firing_children g c) ⊎ (n ≡ input)
  pub typed : (n : ℕ) (outs : List Value) → look n ≡ Some outs → HaveTypes (functions g) outs (outs_of (op_at g n))
  pub closed : (a b : ℕ) → Edge g a b → has_fired look b ≡ true → has_fired look a ≡ true
  pub entered : has_fired look input ≡ true
  pub count_is : length (yet_to_fire look (firing_children g c)) ≡ count
