-- A region as a list of steps, and when a graph does what the steps do.
use Rattle.std.specs.Prelude.{◌≡◌, ◌≢◌, ◌≤◌, ◌<◌, ℕ, ℤ, zero, suc, Bool, true, false, ◌==◌, ltb, if◌then◌else◌, List, [], ◌∷◌, ◌++◌, length, map, slice_get, Option, Some, None}
use Rattle.gp_base.specs.Membership.{In}
use Rattle.gp_base.specs.Run.{Run, Out, Returned, Stopped, TurnsUsed, OutcomesUsed, DivisionByZero, Stuck, ◌>>=◌, ret, stop, or_stuck}
use Rattle.gp_base.specs.World.{World, take_turn}
use Rattle.hg_ops.specs.Op.{Op, Types, FuncDefn, DataflowBlock, ExitBlock, Case, Tag, CallIndirect, Ext, ins_of, fires}
use Rattle.hg_graph.specs.Graph.{Graph, Port, Order, op_at, parent_at, children, firing_children, feeder, taker, is_port}
use Rattle.hg_graph.specs.Run.{Fired, Open, outs_at, value_of, cons_both, State, Enter, no_note, fire, region, enter_op, perform, graph_run}
use Rattle.hg_graph.specs.Valid.{IsValid, HasNewName}
use Rattle.hg_graph.specs.Value.{Value, Int, Variant, Function, values}

-- What a node or a region does with its inputs, where `calls` says what functions do.
abbrev pub Act : Type 0
Act = List Value → Run World (List Value)

abbrev pub Calls : Type 0
Calls = ℕ → Act

-- One step: the number of its node, where its inputs come from, and what it does.
pub record Step : Type 0 where
  pub node : ℕ
  pub ins : List Port
  pub act : Calls → Act

-- the values at these outputs
abbrev pub values_at : List Fired → List Port → Option (List Value)
values_at fired [] = Some []
values_at fired (p ∷ ps) = cons_both (value_of (outs_at fired) (Some p)) (values_at fired ps)

-- the steps in their order
unfoldable pub run_steps : Calls → List Step → List Fired → Run World (List Fired)
run_steps calls [] fired w = Returned fired w
run_steps calls (s ∷ ss) fired w =
    (or_stuck (values_at fired s.ins)
    >>= (λ vs. s.act calls vs
    >>= (λ outs. run_steps calls ss (record { node = s.node; outs = outs } ∷ fired)))) w

-- what a region does whose Input is i
unfoldable pub body : ℕ → List Step → List Port → Calls → Act
body i ss outs calls args =
    run_steps calls ss (record { node = i; outs = args } ∷ []) >>=
    (λ fired. or_stuck (values_at fired outs))

abbrev pub nodes_of : List Step → List ℕ
nodes_of ss = map (λ (s : Step). s.node) ss

-- ---- the run of a graph without picks and notes

abbrev pub quiet : World → State (Unit {0})
quiet w = record { world = w; picks = []; notes = tt }

-- The run of a graph ends as the steps say. Nothing is said where they are stuck.
abbrev pub Tracks : {A : Type 0} → Out World A → Out (State (Unit {0})) A → Type 0
Tracks (Returned a w) o = o ≡ Returned a (quiet w)
Tracks (Stopped TurnsUsed w) o = o ≡ Stopped TurnsUsed (quiet w)
Tracks (Stopped OutcomesUsed w) o = o ≡ Stopped OutcomesUsed (quiet w)
Tracks (Stopped DivisionByZero w) o = o ≡ Stopped DivisionByZero (quiet w)
Tracks (Stopped Stuck w) o = Unit {0}

-- Order links lead from a node that fires to a later node of its region.
pub record OrderRises (g : Graph) (a b : ℕ) : Type 0 where
  pub rises : a < b
  pub within : b < length g.nodes
  pub below : parent_at g b < a
  pub same : parent_at g a ≡ parent_at g b
  pub fires_too : fires (op_at g a) ≡ true

-- What runs the nodes of a graph does with each what its op says, and with functions what `calls` says.
pub record Runner (g : Graph) (R : Enter (Unit {0})) (calls : Calls) : Type 0 where
  pub unfolds : (outer : List Open) (n : ℕ) (vs : List Value) (s : State (Unit {0}))
      → R outer n vs s ≡ enter_op no_note g R R (op_at g n) outer n vs s
  pub answers : (f : ℕ) (outer : List Open) (vs : List Value) (w : World)
      → Tracks (calls f vs w) (R outer f vs (quiet w))
  pub orders : (a b : ℕ) → In (Order a b) g.links → OrderRises g a b

-- ---- growth

-- what stays when nodes and links are appended
pub record Grows (g h : Graph) : Type 0 where
  pub more : length g.nodes ≤ length h.nodes
  pub ops : (n : ℕ) → n < length g.nodes → op_at h n ≡ op_at g n
  pub parents : (n : ℕ) → n < length g.nodes → parent_at h n ≡ parent_at g n
  pub kids : (c k n : ℕ) → slice_get (children g c) k ≡ Some n → slice_get (children h c) k ≡ Some n
  pub feeders : (to from : Port) → feeder g.links to ≡ Some from → feeder h.links to ≡ Some from
  pub takers : (from to : Port) → taker g.links from ≡ Some to → taker h.links from ≡ Some to

-- and under none of the nodes from lo to hi a child that fires was added
pub record SamePart (lo hi : ℕ) (g h : Graph) : Type 0 where
  pub grows : Grows g h
  pub firing : (n : ℕ) → lo ≤ n → n < hi → firing_children h n ≡ firing_children g n

-- Node n does this, in g and in every graph that has the part of g from lo to hi.
pub record FiresAs (g : Graph) (lo hi n : ℕ) (act : Calls → Act) : Type 0 where
  pub by : (h : Graph) → SamePart lo hi g h → (R : Enter (Unit {0})) (calls : Calls)
      → Runner h R calls → (outer : List Open) (vs : List Value) (w : World)
      → Tracks (act calls vs w) (fire no_note h R R outer n vs (quiet w))

-- The region of c does this, with what stands from lo to hi.
pub record RegionAs (g : Graph) (c lo hi : ℕ) (act : Calls → Act) : Type 0 where
  pub by : (h : Graph) → firing_children h c ≡ firing_children g c → SamePart lo hi g h
      → (R : Enter (Unit {0})) (calls : Calls) → Runner h R calls
      → (outer : List Open) (vs : List Value) (w : World)
      → Tracks (act calls vs w) (region no_note h (fire no_note h R R) outer c vs (quiet w))

-- ---- a region that is laid as steps

abbrev pub PortsIn : List Port → List ℕ → Type 0
PortsIn [] known = Unit {0}
PortsIn (p ∷ ps) known = In p.node known × PortsIn ps known

-- the inputs of n, from q on, come from these ports
abbrev pub FedBy : Graph → ℕ → ℕ → List Port → Type 0
FedBy g n q [] = Unit {0}
FedBy g n q (p ∷ ps) = (feeder g.links (record { node = n; index = q }) ≡ Some p) × FedBy g n
    (suc q) ps

-- the node of a step stands from lo to hi, and takes its inputs from nodes that are known
pub record StepAt (g : Graph) (known : List ℕ) (lo hi : ℕ) (s : Step) : Type 0 where
  pub from : lo ≤ s.node
  pub below : s.node < hi
  pub within : hi ≤ length g.nodes
  pub fed : FedBy g s.node 0 s.ins
  pub inputs : length (ins_of (op_at g s.node)) ≡ length s.ins
  pub ports : PortsIn s.ins known
  pub does : FiresAs g lo hi s.node s.act

abbrev pub StepsAt : Graph → List ℕ → ℕ → List Step → ℕ → Type 0
StepsAt g known at [] end = at ≤ end
StepsAt g known at (s ∷ ss) end =
    (lo : ℕ) × (hi : ℕ) × (at ≤ lo) × StepAt g known lo hi s × StepsAt g (s.node ∷ known) hi ss end

-- the region of c has Input i, Output o, and between o and `end` these steps
pub record Laid (g : Graph) (c i o : ℕ) (ss : List Step) (end : ℕ) : Type 0 where
  pub input : slice_get (children g c) 0 ≡ Some i
  pub output : slice_get (children g c) 1 ≡ Some o
  pub firing : firing_children g c ≡ nodes_of ss
  pub above : c < i
  pub next : i < o
  pub within : o < length g.nodes
  pub steps : StepsAt g (i ∷ []) (suc o) ss end

-- the nodes that are known after some steps, the last first
abbrev pub known_after : List ℕ → List Step → List ℕ
known_after known [] = known
known_after known (s ∷ ss) = known_after (s.node ∷ known) ss

-- ---- what nodes do

-- an op without a region
abbrev pub plain_act : Op → Calls → Act
plain_act kind calls vs = perform kind vs

abbrev pub constant_act : ℤ → Calls → Act
constant_act value calls vs = ret (Int value ∷ [])

-- a turn, and then the function
abbrev pub call_act : ℕ → Calls → Act
call_act f calls vs = take_turn >>= (λ _. calls f vs)

-- a function as a value
abbrev pub function_act : List ℕ → Calls → Act
function_act name calls vs = ret (Function name ∷ [])

abbrev pub found_act : Option ℕ → Calls → Act
found_act None calls vs = stop Stuck
found_act (Some f) calls vs = call_act f calls vs

-- the name that the first value is, and the other values
abbrev pub by_name : List Value → (List ℕ → List Value → Run World (List Value))
    → Run World (List Value)
by_name (Function name ∷ others) go = go name others
by_name _ go = stop Stuck

-- a turn, and then the function of the name, where `find` has one
abbrev pub indirect_act : (find : List ℕ → Option ℕ) → Calls → Act
indirect_act find calls vs = by_name vs (λ name us. found_act (find name) calls us)

-- the node is the first function of the name, and has these types
pub record IsNamed (g : Graph) (ins outs : Types) (name : List ℕ) (f : ℕ) : Type 0 where
  pub is : op_at g f ≡ FuncDefn name ins outs
  pub new : HasNewName g f name

-- what `find` finds are functions with these types
abbrev pub Finds : Graph → Types → Types → (List ℕ → Option ℕ) → Type 0
Finds g ins outs find = (name : List ℕ) (f : ℕ) → find name ≡ Some f → IsNamed g ins outs name f

-- A region that may wait to be filled: its container, and what it does once it is filled.
pub record Hole : Type 0 where
  pub node : ℕ
  pub act : Option (Calls → Act)

abbrev pub filled : Option (Calls → Act) → Calls → Act
filled None calls vs = stop Stuck
filled (Some act) calls vs = act calls vs

abbrev pub hole_act : Option Hole → Calls → Act
hole_act None calls vs = stop Stuck
hole_act (Some hole) calls vs = filled hole.act calls vs

-- the variant of the first value, with the values of its row followed by the others
abbrev pub by_variant : List Value → (ℕ → List Value → Run World (List Value))
    → Run World (List Value)
by_variant (Variant k vs ∷ others) go = go k (values vs ++ others)
by_variant _ go = stop Stuck

-- a Conditional runs the case of its variant
abbrev pub choice_act : List Hole → Calls → Act
choice_act cases calls vs = by_variant vs (λ k us. hole_act (slice_get cases k) calls us)

-- A control link: from a block's port to a block, or to the exit.
pub record Way : Type 0 where
  pub from : Port
  pub to : ℕ
  pub leaves : Bool

abbrev pub hole_at : List Hole → ℕ → Option Hole
hole_at [] n = None
hole_at (hole ∷ holes) n = if hole.node == n then Some hole else hole_at holes n

abbrev pub way_at : List Way → Port → Option Way
way_at [] from = None
way_at (way ∷ ways) from = if is_port way.from from then Some way else way_at ways from

-- on from block n: out, to a later block, or by a turn to another one
abbrev pub go_way : (inside again : ℕ → Act) → ℕ → Option Way → Act
go_way inside again n None vs = stop Stuck
go_way inside again n (Some way) vs =
    if way.leaves then ret vs else
    (if ltb n way.to then inside way.to vs else (take_turn >>= (λ _. again way.to vs)))

-- `count` blocks at most until the next turn
abbrev pub forward : List Hole → List Way → Calls → (again : ℕ → Act) → (count : ℕ) → ℕ → Act
forward blocks ways calls again zero n vs = stop Stuck
forward blocks ways calls again (suc count) n vs =
    hole_act (hole_at blocks n) calls vs
    >>= (λ us. by_variant us (λ k xs.
    go_way (forward blocks ways calls again count) again n
    (way_at ways (record { node = n; index = k })) xs))

-- fewer than `turns` turns
abbrev pub walk : List Hole → List Way → Calls → (turns : ℕ) → ℕ → Act
walk blocks ways calls zero n vs = stop Stuck
walk blocks ways calls (suc turns) n vs = forward blocks ways calls (walk blocks ways calls turns)
    (length blocks) n vs

-- a CFG walks from its first block until it leaves
abbrev pub cfg_act : List Hole → List Way → Calls → Act
cfg_act [] ways calls vs w = Stopped Stuck w
cfg_act (entry ∷ blocks) ways calls vs w = walk (entry ∷ blocks) ways calls (suc w.turns) entry.node
    vs w

-- an op that has neither a region nor a static input, and fires
abbrev pub is_plain : Op → Bool
is_plain (Tag rows tag) = true
is_plain (Ext e) = true
is_plain _ = false

-- and these with the call of a function that is a value
abbrev pub is_leaf : Op → Bool
is_leaf (CallIndirect ins outs) = true
is_leaf kind = is_plain kind

-- ---- holes in a graph

-- the region of an unfilled hole has no nodes; the region of a filled one does what the hole says, with what stands from `top` to `end`
abbrev pub HoleDoes : Graph → ℕ → ℕ → ℕ → Option (Calls → Act) → Type 0
HoleDoes g top end n None = children g n ≡ []
HoleDoes g top end n (Some act) = RegionAs g n top end act

-- so it is with all holes but the one at node e
abbrev pub HolesDo : Graph → ℕ → ℕ → ℕ → List Hole → Type 0
HolesDo g e top end [] = Unit {0}
HolesDo g e top end (hole ∷ holes) = (hole.node ≢ e → HoleDoes g top end hole.node hole.act) ×
    HolesDo g e top end holes

-- the holes stand between a node and `top`
abbrev pub HolesWithin : ℕ → ℕ → List Hole → Type 0
HolesWithin n top [] = Unit {0}
HolesWithin n top (hole ∷ holes) = (n < hole.node) × (hole.node < top) × HolesWithin n top holes

pub record IsCaseAt (g : Graph) (n k m : ℕ) : Type 0 where
  pub child : slice_get (children g n) k ≡ Some m
  pub ins : Types
  pub outs : Types
  pub is : op_at g m ≡ Case ins outs

-- they are the cases of node n, from the k-th on
abbrev pub CasesAt : Graph → ℕ → ℕ → List Hole → Type 0
CasesAt g n k [] = Unit {0}
CasesAt g n k (hole ∷ holes) = IsCaseAt g n k hole.node × CasesAt g n (suc k) holes

pub record IsBlockAt (g : Graph) (m : ℕ) : Type 0 where
  pub ins : Types
  pub rows : List Types
  pub others : Types
  pub is : op_at g m ≡ DataflowBlock ins rows others

abbrev pub BlocksAt : Graph → List Hole → Type 0
BlocksAt g [] = Unit {0}
BlocksAt g (hole ∷ holes) = IsBlockAt g hole.node × BlocksAt g holes

pub record IsExitAt (g : Graph) (m : ℕ) : Type 0 where
  pub types : Types
  pub is : op_at g m ≡ ExitBlock types

abbrev pub EndsAt : Graph → Bool → ℕ → Type 0
EndsAt g true m = IsExitAt g m
EndsAt g false m = IsBlockAt g m

pub record IsWayAt (g : Graph) (way : Way) : Type 0 where
  pub target : Port
  pub takes : taker g.links way.from ≡ Some target
  pub node : target.node ≡ way.to
  pub within : way.to < length g.nodes
  pub ends : EndsAt g way.leaves way.to

abbrev pub WaysAt : Graph → List Way → Type 0
WaysAt g [] = Unit {0}
WaysAt g (way ∷ ways) = IsWayAt g way × WaysAt g ways

-- ---- whole runs

-- what functions do that run with fewer than `turns` calls inside one another
abbrev pub function_calls : List Hole → (turns : ℕ) → Calls
function_calls functions zero f vs = stop Stuck
function_calls functions (suc turns) f vs = hole_act (hole_at functions f)
    (function_calls functions turns) vs

-- The second run ends as the first, which isn't stuck.
abbrev pub EndsAs : {A : Type 0} → Out World A → Out World A → Type 0
EndsAs (Returned a w) o = o ≡ Returned a w
EndsAs (Stopped TurnsUsed w) o = o ≡ Stopped TurnsUsed w
EndsAs (Stopped OutcomesUsed w) o = o ≡ Stopped OutcomesUsed w
EndsAs (Stopped DivisionByZero w) o = o ≡ Stopped DivisionByZero w
EndsAs (Stopped Stuck w) o = Unit {0}

pub record IsFunctionAt (g : Graph) (m : ℕ) : Type 0 where
  pub name : List ℕ
  pub ins : Types
  pub outs : Types
  pub is : op_at g m ≡ FuncDefn name ins outs

abbrev pub FunctionDoes : Graph → ℕ → Option (Calls → Act) → Type 0
FunctionDoes g n None = Unit {0}
FunctionDoes g n (Some act) = (lo : ℕ) × (end : ℕ) × RegionAs g n lo end act

-- each of the functions does what it says
abbrev pub FunctionsDo : Graph → List Hole → Type 0
FunctionsDo g [] = Unit {0}
FunctionsDo g (hole ∷ holes) = IsFunctionAt g hole.node × FunctionDoes g hole.node hole.act ×
    FunctionsDo g holes

abbrev pub OrdersRise : Graph → Type 0
OrdersRise g = (a b : ℕ) → In (Order a b) g.links → OrderRises g a b

-- A valid graph runs as its functions say, in each world.
abbrev pub GraphsRunAsBuilt : Type 0
GraphsRunAsBuilt =
    (g : Graph) → IsValid g → OrdersRise g → (functions : List Hole) → FunctionsDo g functions
    → (turns f : ℕ) (arguments : List Value) (w : World)
    → EndsAs (function_calls functions turns f arguments w) (graph_run g f arguments w [])
