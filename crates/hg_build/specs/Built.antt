-- What the builder has made: the steps of the open region, and the regions that wait round it.
use Rattle.std.specs.Prelude.{◌≡◌, ℕ, suc, ◌≤◌, ◌<◌, Bool, true, List, [], ◌∷◌, ◌++◌, length, Option, Some, None, slice_get}
use Rattle.gp_base.specs.Membership.{In}
use Rattle.hg_ops.specs.Op.{Types, Conditional, Cfg, ins_of}
use Rattle.hg_graph.specs.Graph.{Graph, Port, IsGraph, op_at, children, firing_children, feeder}
use Rattle.hg_build.specs.Steps.{Act, Calls, Step, nodes_of, PortsIn, FedBy, StepsAt, Laid, known_after, choice_act, cfg_act, Hole, Way, HolesDo, CasesAt, BlocksAt, WaysAt, OrdersRise, IsFunctionAt}
use Rattle.hg_build.specs.declared.region.Region.{Region}
use Rattle.hg_build.specs.declared.region.Place.{Place}
use Rattle.hg_build.specs.declared.region.Outer.{Outer}

pub record Sound (g : Graph) : Type 0 where
  pub graph : IsGraph g
  pub orders : OrdersRise g

-- the last effect node is one of the steps
abbrev pub LastIn : Option ℕ → List ℕ → Type 0
LastIn None nodes = Unit {0}
LastIn (Some l) nodes = In l nodes

-- the steps of an open region, whose Output waits for `width` links
pub record OpenAt (g : Graph) (p : Place) (width : ℕ) (ss : List Step) : Type 0 where
  pub laid : Laid g p.container p.input p.output ss (length g.nodes)
  pub wide : length (ins_of (op_at g p.output)) ≡ width
  pub unfed : (q : ℕ) → feeder g.links (record { node = p.output; index = q }) ≡ None
  pub last : LastIn p.last (nodes_of ss)

-- what a node with holes is: a Conditional, or a CFG with control links
pub data Fill : Type 0 where
  Choice : Fill
  Flow : List Way → Fill

abbrev pub fill_act : Fill → List Hole → Calls → Act
fill_act Choice holes = choice_act holes
fill_act (Flow ways) holes = cfg_act holes ways

pub record IsChoiceAt (g : Graph) (n : ℕ) (holes : List Hole) : Type 0 where
  pub rows : List Types
  pub ins : Types
  pub outs : Types
  pub is : op_at g n ≡ Conditional rows ins outs
  pub cases : CasesAt g n 0 holes

-- the first block of a CFG
abbrev pub EntryAt : Graph → ℕ → List Hole → Type 0
EntryAt g n [] = Unit {0}
EntryAt g n (entry ∷ blocks) = slice_get (children g n) 0 ≡ Some entry.node

pub record IsFlowAt (g : Graph) (n : ℕ) (holes : List Hole) (ways : List Way) : Type 0 where
  pub ins : Types
  pub outs : Types
  pub is : op_at g n ≡ Cfg ins outs
  pub entry : EntryAt g n holes
  pub blocks : BlocksAt g holes
  pub ways_at : WaysAt g ways

abbrev pub FillAt : Graph → ℕ → Fill → List Hole → Type 0
FillAt g n Choice holes = IsChoiceAt g n holes
FillAt g n (Flow ways) holes = IsFlowAt g n holes ways

-- the holes stand in rising number between a node and `top`
abbrev pub HolesRise : ℕ → ℕ → List Hole → Type 0
HolesRise n top [] = n < top
HolesRise n top (hole ∷ holes) = (n < hole.node) × HolesRise hole.node top holes

-- A region that waits for a hole of its last node.
pub record Frame : Type 0 where
  pub outer : Outer
  pub width : ℕ
  pub steps : List Step
  pub ins : List Port
  pub fill : Fill
  pub holes : List Hole
  pub hole : ℕ

-- the region of a frame; the hole at node e is open, and all else that is in the holes stands before `start`
pub record Halfway (g : Graph) (e start : ℕ) (fr : Frame) : Type 0 where
  pub input : slice_get (children g fr.outer.place.container) 0 ≡ Some fr.outer.place.input
  pub output : slice_get (children g fr.outer.place.container) 1 ≡ Some fr.outer.place.output
  pub firing : firing_children g fr.outer.place.container ≡ nodes_of fr.steps ++ fr.outer.node ∷ []
  pub above : fr.outer.place.container < fr.outer.place.input
  pub next : fr.outer.place.input < fr.outer.place.output
  pub steps : StepsAt g (fr.outer.place.input ∷ []) (suc fr.outer.place.output) fr.steps
      fr.outer.node
  pub wide : length (ins_of (op_at g fr.outer.place.output)) ≡ fr.width
  pub unfed : (q : ℕ) → feeder g.links (record { node = fr.outer.place.output; index = q }) ≡ None
  pub last : LastIn fr.outer.place.last (nodes_of fr.steps ++ fr.outer.node ∷ [])
  pub filling : FillAt g fr.outer.node fr.fill fr.holes
  pub fed : FedBy g fr.outer.node 0 fr.ins
  pub inputs : length (ins_of (op_at g fr.outer.node)) ≡ length fr.ins
  pub ports : PortsIn fr.ins (known_after (fr.outer.place.input ∷ []) fr.steps)
  pub top : ℕ
  pub rise : HolesRise fr.outer.node top fr.holes
  pub topped : top ≤ start
  pub started : start ≤ length g.nodes
  pub does : HolesDo g e top start fr.holes

-- The functions of the module; the one at place `hole` is open.
pub record Base : Type 0 where
  pub functions : List Hole
  pub hole : ℕ

abbrev pub FunctionsAt : Graph → List Hole → Type 0
FunctionsAt g [] = Unit {0}
FunctionsAt g (hole ∷ holes) = IsFunctionAt g hole.node × FunctionsAt g holes

-- the functions of a module; the one at node e is open, and all else that is in functions stands before `start`
pub record ModuleAt (g : Graph) (e start : ℕ) (functions : List Hole) : Type 0 where
  pub are : FunctionsAt g functions
  pub top : ℕ
  pub rise : HolesRise 0 top functions
  pub topped : top ≤ start
  pub started : start ≤ length g.nodes
  pub does : HolesDo g e top start functions

-- the frames round a region whose container is c and whose Input is i
abbrev pub Below : Graph → Base → ℕ → ℕ → List Frame → Type 0
Below g base c i [] = (slice_get base.functions base.hole ≡ Some (record { node = c; act = None }))
    × ModuleAt g c i base.functions
Below g base c i (fr ∷ frs) =
    (slice_get fr.holes fr.hole ≡ Some (record { node = c; act = None })) × Halfway g c i fr × Below
    g base fr.outer.place.container fr.outer.place.input frs

-- What a region has built: in the frames, these steps.
pub record BuiltAt (g : Graph) (base : Base) (p : Place) (width : ℕ) (frs : List Frame)
    (ss : List Step) : Type 0 where
  pub sound : Sound g
  pub open_at : OpenAt g p width ss
  pub below : Below g base p.container p.input frs

abbrev pub Built : Region → Base → ℕ → List Frame → List Step → Type 0
Built r base width frs ss = BuiltAt r.graph base r.place width frs ss

abbrev pub frame_at : Place → ℕ → Bool → ℕ → List Step → List Port → Fill → List Hole → ℕ → Frame
frame_at p n chained width ss ins fill holes k = record {
  outer = record { place = p; node = n; chained = chained };
  width = width;
  steps = ss;
  ins = ins;
  fill = fill;
  holes = holes;
  hole = k;
}

-- A region whose last node has holes, of which none is open.
pub record FillingAt (g : Graph) (base : Base) (p : Place) (width : ℕ) (frs : List Frame)
    (ss : List Step) (n : ℕ) (ins : List Port) (fill : Fill) (holes : List Hole) : Type 0 where
  pub sound : Sound g
  pub halfway : Halfway g n (length g.nodes) (frame_at p n true width ss ins fill holes 0)
  pub below : Below g base p.container p.input frs

abbrev pub Filling : Region → Base → ℕ → List Frame → List Step → ℕ → List Port → Fill → List Hole
    → Type 0
Filling r base width frs ss n ins fill holes = FillingAt r.graph base r.place width frs ss n ins
    fill holes

-- holes that wait to be filled, from node k on
abbrev pub new_holes : ℕ → List Types → List Hole
new_holes k [] = []
new_holes k (row ∷ rows) = record { node = k; act = None } ∷ new_holes (suc k) rows

abbrev pub Unfilled : List Hole → Type 0
Unfilled [] = Unit {0}
Unfilled (hole ∷ holes) = (hole.act ≡ None) × Unfilled holes

-- a module whose functions are as they say; none of them is open
pub record FunctionsBuilt (g : Graph) (functions : List Hole) : Type 0 where
  pub sound : Sound g
  pub at : ModuleAt g 0 (length g.nodes) functions

-- the first child of a CFG is its first block
abbrev pub FirstBlock : Graph → ℕ → List Hole → Type 0
FirstBlock g n [] = children g n ≡ []
FirstBlock g n (hole ∷ holes) = Unit {0}
