-- What each call makes of the rules on containers, and when a CFG is ready.
use Rattle.std.specs.Prelude.{◌≡◌, ◌≢◌, ◌⊎◌, ℕ, suc, ◌<◌, Bool, true, false, List, [], ◌∷◌, ◌++◌, length, slice_get, map, Option, Some, None}
use Rattle.gp_base.specs.Membership.{In}
use Rattle.hg_ops.specs.GraphType.{sum_type}
use Rattle.hg_ops.specs.Op.{Op, Types, FuncDefn, Output, Cfg, DataflowBlock, ExitBlock, ins_of, inner_ins, inner_outs, is_dataflow_container}
use Rattle.hg_graph.specs.Graph.{Graph, Port, IsGraph, op_at, parent_at, children, links_from, taker}
use Rattle.hg_graph.specs.Valid.{IsValid, is_exit, is_block, block_ins}
use Rattle.hg_build.specs.Steps.{Step, is_leaf, Hole, Way, way_at}
use Rattle.hg_build.specs.Built.{Fill, Flow, Frame, Base, Built, Filling}
use Rattle.hg_build.specs.Clauses.{InScope, next_node, empty_hole}
use Rattle.hg_build.specs.Pending.{times, Pends}
use Rattle.hg_build.specs.Drawn.{Drawn, Typed, Contains}
use Rattle.hg_build.specs.Kept.{DrawnIn}
use Rattle.hg_build.specs.declared.region.Region.{Region}
use Rattle.hg_build.specs.declared.region.Outer.{Outer}

-- The rules on containers hold, apart from those of `empty`, which have no children yet, and of `unready`.
pub record ContainsAt (g : Graph) (empty unready : List ℕ) : Type 0 where
  pub contains : Contains g empty unready
  pub within : (m : ℕ) → In m empty → m < length g.nodes
  pub regions : (m : ℕ) → In m empty → is_dataflow_container (op_at g m) ≡ true

-- c comes off the list
pub record TakenOff (empty : List ℕ) (c : ℕ) (rest : List ℕ) : Type 0 where
  pub here : In c empty
  pub others : (m : ℕ) → In m empty → (m ≡ c) ⊎ In m rest
  pub apart : (m : ℕ) → In m rest → In m empty × (m ≢ c)

-- the numbers of the cases of a Conditional, before others
abbrev pub with_cases_of : ℕ → List Types → List ℕ → List ℕ
with_cases_of first [] empty = empty
with_cases_of first (row ∷ rows) empty = with_cases_of (suc first) rows (first ∷ empty)

-- `open` and `enter` give a container its Input and its Output
pub record OpenContains (old : Graph) (c : ℕ) (ins outs : Types) (new : Region) : Type 0 where
  pub by : (empty rest unready : List ℕ) → IsGraph old → TakenOff empty c rest
      → ins ≡ inner_ins (op_at old c) → outs ≡ inner_outs (op_at old c)
      → ContainsAt old empty unready → ContainsAt new.graph rest unready

pub record EnterContains (old : Region) (c : ℕ) (outer : Outer) (inner : Region) : Type 0 where
  pub by : (base : Base) (width : ℕ) (frs : List Frame) (ss : List Step) (ps : List Port)
      (fill : Fill) (holes : List Hole) (k : ℕ) (empty rest unready : List ℕ)
      → Filling old base width frs ss outer.node ps fill holes
      → slice_get holes k ≡ Some (empty_hole c)
      → TakenOff empty c rest → ContainsAt old.graph empty unready
      → ContainsAt inner.graph rest unready

-- `op`, `constant`, `call` and `load_function` add what is ready at once
pub record OpContains (old new : Region) (kind : Op) (ps : List Port) : Type 0 where
  pub by : (base : Base) (width : ℕ) (frs : List Frame) (ss : List Step) (empty unready : List ℕ)
      → Built old base width frs ss → DrawnIn old frs → is_leaf kind ≡ true
      → Typed old.graph ps (ins_of kind) → InScope old ss ps
      → ContainsAt old.graph empty unready → ContainsAt new.graph empty unready

pub record ConstantContains (old new : Region) : Type 0 where
  pub by : (base : Base) (width : ℕ) (frs : List Frame) (ss : List Step) (empty unready : List ℕ)
      → Built old base width frs ss → DrawnIn old frs
      → ContainsAt old.graph empty unready → ContainsAt new.graph empty unready

pub record CallContains (old new : Region) (f : ℕ) (ps : List Port) : Type 0 where
  pub by : (base : Base) (width : ℕ) (frs : List Frame) (ss : List Step) (name : List ℕ)
      (ins outs : Types) (empty unready : List ℕ)
      → Built old base width frs ss → DrawnIn old frs → op_at old.graph f ≡ FuncDefn name ins outs
      → Typed old.graph ps ins → InScope old ss ps
      → ContainsAt old.graph empty unready → ContainsAt new.graph empty unready

pub record LoadContains (old new : Region) (f : ℕ) : Type 0 where
  pub by : (base : Base) (width : ℕ) (frs : List Frame) (ss : List Step) (name : List ℕ)
      (ins outs : Types) (empty unready : List ℕ)
      → Built old base width frs ss → DrawnIn old frs → op_at old.graph f ≡ FuncDefn name ins outs
      → ContainsAt old.graph empty unready → ContainsAt new.graph empty unready

-- the cases of a `Conditional` are there, and empty
pub record ChoiceContains (old new : Region) (rows : List Types) (ins : Types) (ps : List Port) :
    Type 0 where
  pub by : (base : Base) (width : ℕ) (frs : List Frame) (ss : List Step) (empty unready : List ℕ)
      → Built old base width frs ss → DrawnIn old frs
      → Typed old.graph ps (sum_type rows ∷ ins) → InScope old ss ps
      → ContainsAt old.graph empty unready
      → ContainsAt new.graph (with_cases_of (suc (next_node old)) rows empty) unready

-- a `CFG` is not ready, its blocks are empty
pub record FlowContains (old new : Region) (ins : Types) (ps : List Port) : Type 0 where
  pub by : (base : Base) (width : ℕ) (frs : List Frame) (ss : List Step) (empty unready : List ℕ)
      → Built old base width frs ss → DrawnIn old frs → Typed old.graph ps ins → InScope old ss ps
      → ContainsAt old.graph empty unready → ContainsAt new.graph empty (next_node old ∷ unready)

pub record BlockContains (old new : Region) (cfg : ℕ) (kind : Op) : Type 0 where
  pub block : (base : Base) (width : ℕ) (frs : List Frame) (ss : List Step) (ps : List Port)
      (ways : List Way) (holes : List Hole) (ins : Types) (rows : List Types) (others : Types)
      (empty unready : List ℕ)
      → kind ≡ DataflowBlock ins rows others
      → Filling old base width frs ss cfg ps (Flow ways) holes → In cfg unready
      → ContainsAt old.graph empty unready → ContainsAt new.graph (next_node old ∷ empty) unready
  pub exit : (base : Base) (width : ℕ) (frs : List Frame) (ss : List Step) (ps : List Port)
      (ways : List Way) (holes : List Hole) (types : Types) (empty unready : List ℕ)
      → kind ≡ ExitBlock types → Filling old base width frs ss cfg ps (Flow ways) holes
      → In cfg unready
      → ContainsAt old.graph empty unready → ContainsAt new.graph empty unready

pub record ControlContains (old new : Region) (from : Port) : Type 0 where
  pub by : (empty unready : List ℕ) → IsGraph old.graph → In (parent_at old.graph from.node) unready
      → ContainsAt old.graph empty unready → ContainsAt new.graph empty unready

pub record LeaveContains (inner : Region) (ps : List Port) (new : Region) : Type 0 where
  pub by : (base : Base) (width : ℕ) (frs : List Frame) (ss : List Step) (empty unready : List ℕ)
      → Built inner base width frs ss
      → Typed inner.graph ps (ins_of (op_at inner.graph inner.place.output))
      → InScope inner ss ps
      → ContainsAt inner.graph empty unready → ContainsAt new.graph empty unready

pub record FinishContains (r : Region) (ps : List Port) (g : Graph) : Type 0 where
  pub by : (base : Base) (width : ℕ) (frs : List Frame) (ss : List Step) (empty unready : List ℕ)
      → Built r base width frs ss → Typed r.graph ps (ins_of (op_at r.graph r.place.output))
      → InScope r ss ps
      → ContainsAt r.graph empty unready → ContainsAt g empty unready

-- ---- the chart of a CFG: its children, and its control links

abbrev pub target_of : Option Way → Option Port
target_of None = None
target_of (Some way) = Some (record { node = way.to; index = 0 })

abbrev pub froms : List Way → List Port
froms ways = map (λ (way : Way). way.from) ways

abbrev pub WaysFrom : List ℕ → List Way → Type 0
WaysFrom kids [] = Unit {0}
WaysFrom kids (way ∷ ways) = In way.from.node kids × WaysFrom kids ways

-- the children of n are these, and their control links are these ways
pub record Charted (g : Graph) (n : ℕ) (kids : List ℕ) (ways : List Way) : Type 0 where
  pub are : children g n ≡ kids
  pub own : WaysFrom kids ways
  pub count : (from : Port) → In from.node kids → links_from g.links from ≡ times (froms ways) from
  pub takes : (from : Port) → In from.node kids → taker g.links from ≡ target_of (way_at ways from)

pub record FlowCharted (old new : Region) (ins : Types) (ps : List Port) (node : ℕ) : Type 0 where
  pub by : (base : Base) (width : ℕ) (frs : List Frame) (ss : List Step)
      → Built old base width frs ss → length ins ≡ length ps → InScope old ss ps
      → Charted new.graph node [] []

pub record BlockCharted (old new : Region) (cfg node : ℕ) : Type 0 where
  pub by : (kids : List ℕ) (ways : List Way) → IsGraph old.graph → cfg < next_node old
      → Charted old.graph cfg kids ways → Charted new.graph cfg (kids ++ node ∷ []) ways

pub record ControlCharted (old new : Region) (from : Port) (to : ℕ) : Type 0 where
  pub by : (cfg : ℕ) (kids : List ℕ) (ways : List Way) (leaves : Bool) → In from.node kids
      → Charted old.graph cfg kids ways
      → Charted new.graph cfg kids
      (ways ++ record { from = from; to = to; leaves = leaves } ∷ [])

-- from each port of a block one way leads on, to what takes the values
pub record LeadsOn (g : Graph) (ways : List Way) (m k : ℕ) (row others : Types) : Type 0 where
  pub once : times (froms ways) (record { node = m; index = k }) ≡ 1
  pub way : Way
  pub is : way_at ways (record { node = m; index = k }) ≡ Some way
  pub block : is_block (op_at g way.to) ≡ true
  pub fits : block_ins (op_at g way.to) ≡ row ++ others

-- the blocks and the control links of a CFG are as they should be
pub record IsWhole (g : Graph) (n : ℕ) (kids : List ℕ) (ways : List Way) (ins outs : Types) : Type 0
  where
    pub apart : parent_at g n ≢ n
    pub is : op_at g n ≡ Cfg ins outs
    pub entry : ℕ
    pub exit : ℕ
    pub rest : List ℕ
    pub kids_are : kids ≡ entry ∷ exit ∷ rest
    pub rows : List Types
    pub others : Types
    pub entry_is : op_at g entry ≡ DataflowBlock ins rows others
    pub exit_is : op_at g exit ≡ ExitBlock outs
    pub no_other : (m : ℕ) → In m rest → is_exit (op_at g m) ≡ false
    pub leads : (m : ℕ) (ins' : Types) (rows' : List Types) (others' : Types) → In m kids
        → op_at g m ≡ DataflowBlock ins' rows' others'
        → (k : ℕ) (row : Types) → slice_get rows' k ≡ Some row → LeadsOn g ways m k row others'

-- The Output of an open region has the types of its container.
abbrev pub OutputIsThere : Type 0
OutputIsThere =
    (r : Region) (base : Base) (width : ℕ) (frs : List Frame) (ss : List Step) (empty unready : List ℕ)
    → Built r base width frs ss → DrawnIn r frs → ContainsAt r.graph empty unready
    → op_at r.graph r.place.output ≡ Output (inner_outs (op_at r.graph r.place.container))

-- A graph in which nothing is due, no linear output is pending, and no container is empty or unready is valid.
abbrev pub DrawnIsValid : Type 0
DrawnIsValid = (g : Graph) → Drawn g [] [] → Pends g [] → ContainsAt g [] [] → IsValid g

-- a CFG whose chart is whole is ready
abbrev pub WholeIsReady : Type 0
WholeIsReady =
    (g : Graph) (n : ℕ) (kids : List ℕ) (ways : List Way) (ins outs : Types)
    (empty unready : List ℕ)
    → Charted g n kids ways → IsWhole g n kids ways ins outs → ContainsAt g empty (n ∷ unready)
    → ContainsAt g empty unready
