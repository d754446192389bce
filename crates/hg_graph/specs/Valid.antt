-- Valid graphs: fifteen rules, each said of one node.
use Rattle.std.specs.Prelude.{◌≡◌, ◌≢◌, ℕ, ◌<◌, Bool, true, false, List, [], ◌∷◌, ◌++◌, length, slice_get, Option, Some, None}
use Rattle.gp_base.specs.Tag.{IsTag}
use Rattle.hg_ops.specs.GraphType.{GraphType, is_linear}
use Rattle.hg_ops.specs.Op.{Op, Types, Module, FuncDefn, Const, Input, Output, Dfg, Cfg, DataflowBlock, ExitBlock, Conditional, Case, TailLoop, Tag, Call, LoadConstant, LoadFunction, Ext, ResultInt, ResultBool, PortKind, ValuePort, ControlPort, ins_of, outs_of, input_ports, output_ports, is_dataflow_container, is_operation, inner_ins, inner_outs}
use Rattle.gp_base.specs.Membership.{In}
use Rattle.hg_graph.specs.Graph.{Graph, Port, Ports, Order, IsGraph, op_at, parent_at, children, feeder, taker, links_into, links_from, static_input}

abbrev pub is_module : Op → Bool
is_module Module = true
is_module _ = false

abbrev pub is_const : Op → Bool
is_const (Const value) = true
is_const _ = false

abbrev pub is_exit : Op → Bool
is_exit (ExitBlock types) = true
is_exit _ = false

abbrev pub is_boundary : Op → Bool
is_boundary (Input types) = true
is_boundary (Output types) = true
is_boundary _ = false

abbrev pub is_output : Op → Bool
is_output (Output types) = true
is_output _ = false

abbrev pub is_input : Op → Bool
is_input (Input types) = true
is_input _ = false

-- ---- 1. Node 0 is a `Module` and its own parent; no other node is a `Module`; every other node's parent has a
-- smaller number.
pub record HasPlace (g : Graph) (n : ℕ) : Type 0 where
  pub root : n ≡ 0 → (op_at g n ≡ Module) × (parent_at g n ≡ 0)
  pub others : 0 < n → (is_module (op_at g n) ≡ false) × (parent_at g n < n)

-- ---- 2. Children of a `Module` are `FuncDefn` and `Const`; of a dataflow container, `Const` and operation nodes; of a
-- `CFG`, `DataflowBlock` and `ExitBlock`; of a `Conditional`, `Case`; other nodes have none. Of the child.
abbrev pub stands_in_region : Op → Bool
stands_in_region (Const value) = true
stands_in_region op = is_operation op

abbrev pub stands_in_module : Op → Bool
stands_in_module (FuncDefn name ins outs) = true
stands_in_module op = is_const op

abbrev pub is_block : Op → Bool
is_block (DataflowBlock ins rows others) = true
is_block op = is_exit op

abbrev pub is_case : Op → Bool
is_case (Case ins outs) = true
is_case _ = false

abbrev pub may_stand_in : Op → Op → Bool
may_stand_in Module child = stands_in_module child
may_stand_in (FuncDefn name ins outs) child = stands_in_region child
may_stand_in (Dfg ins outs) child = stands_in_region child
may_stand_in (Case ins outs) child = stands_in_region child
may_stand_in (DataflowBlock ins rows others) child = stands_in_region child
may_stand_in (TailLoop again leave rest) child = stands_in_region child
may_stand_in (Cfg ins outs) child = is_block child
may_stand_in (Conditional rows ins outs) child = is_case child
may_stand_in _ child = false

abbrev pub SuitsParent : Graph → ℕ → Type 0
SuitsParent g n = parent_at g n ≢ n → may_stand_in (op_at g (parent_at g n)) (op_at g n) ≡ true

-- ---- 3. The first child of a dataflow container is `Input`, the second `Output`, and no other child is either; the
-- two have the types of the container.
pub record HasBoundary (g : Graph) (c : ℕ) : Type 0 where
  pub input : ℕ
  pub output : ℕ
  pub rest : List ℕ
  pub are_children : children g c ≡ input ∷ output ∷ rest
  pub input_is : op_at g input ≡ Input (inner_ins (op_at g c))
  pub output_is : op_at g output ≡ Output (inner_outs (op_at g c))
  pub no_other : (n : ℕ) → In n rest → is_boundary (op_at g n) ≡ false

-- ---- 4. The first child of a `CFG` is a `DataflowBlock` with the same `ins`, the second an `ExitBlock` whose types are
-- the `outs` of the `CFG`, and no other child is an `ExitBlock`.
pub record HasBlocks (g : Graph) (n : ℕ) (ins outs : Types) : Type 0 where
  pub entry : ℕ
  pub exit : ℕ
  pub rest : List ℕ
  pub rows : List Types
  pub others : Types
  pub are_children : children g n ≡ entry ∷ exit ∷ rest
  pub entry_is : op_at g entry ≡ DataflowBlock ins rows others
  pub exit_is : op_at g exit ≡ ExitBlock outs
  pub no_other : (m : ℕ) → In m rest → is_exit (op_at g m) ≡ false

-- ---- 5. A `Conditional` has one `Case` per row, in order; the k-th has as `ins` the k-th row followed by the `ins` of
-- the `Conditional`, and the same `outs`.
pub record HasCase (g : Graph) (n k : ℕ) (row ins outs : Types) : Type 0 where
  pub case : ℕ
  pub is_child : slice_get (children g n) k ≡ Some case
  pub case_is : op_at g case ≡ Case (row ++ ins) outs

pub record HasCases (g : Graph) (n : ℕ) (rows : List Types) (ins outs : Types) : Type 0 where
  pub count : length (children g n) ≡ length rows
  pub each : (k : ℕ) (row : Types) → slice_get rows k ≡ Some row → HasCase g n k row ins outs

-- ---- 6. A link of ports goes from an output port to an input port of the same kind, and a value link joins equal
-- types. An order link joins two operation nodes, doesn't start at an `Output` and doesn't end at an `Input`. Of the
-- link's target.
pub record JoinsPorts (g : Graph) (from to : Port) : Type 0 where
  pub kind : PortKind
  pub output : slice_get (output_ports (op_at g from.node)) from.index ≡ Some kind
  pub input : slice_get (input_ports (op_at g to.node)) to.index ≡ Some kind

pub record JoinsNodes (g : Graph) (before after : ℕ) : Type 0 where
  pub from_operation : is_operation (op_at g before) ≡ true
  pub to_operation : is_operation (op_at g after) ≡ true
  pub no_output : is_output (op_at g before) ≡ false
  pub no_input : is_input (op_at g after) ≡ false

pub record LinksJoin (g : Graph) (n : ℕ) : Type 0 where
  pub ports : (from to : Port) → In (Ports from to) g.links → to.node ≡ n → JoinsPorts g from to
  pub orders : (before : ℕ) → In (Order before n) g.links → JoinsNodes g before n

-- ---- 7. Each value input port has exactly one link.
abbrev pub InputsAreFed : Graph → ℕ → Type 0
InputsAreFed g n = (p : ℕ) → p < length (ins_of (op_at g n)) → links_into g.links (record { node = n; index = p }) ≡ 1

-- ---- 8. Each linear value output port has exactly one link.
abbrev pub LinearOutputsAreTaken : Graph → ℕ → Type 0
LinearOutputsAreTaken g n =
    (p : ℕ) (type : GraphType) → slice_get (outs_of (op_at g n)) p ≡ Some type → is_linear type ≡ true
    → links_from g.links (record { node = n; index = p }) ≡ 1

-- ---- 9. The two nodes of a value, control or order link have the same parent. Of the link's target.
abbrev pub is_local : Option PortKind → Bool
is_local (Some (ValuePort type)) = true
is_local (Some ControlPort) = true
is_local _ = false

pub record LinksStayInside (g : Graph) (n : ℕ) : Type 0 where
  pub ports : (from to : Port) → In (Ports from to) g.links → to.node ≡ n
      → is_local (slice_get (input_ports (op_at g n)) to.index) ≡ true → parent_at g from.node ≡ parent_at g n
  pub orders : (before : ℕ) → In (Order before n) g.links → parent_at g before ≡ parent_at g n

-- ---- 10. No path of value and order links leads from a node to itself.

-- a value link or an order link leads from node a to node b
pub data Edge (g : Graph) (a b : ℕ) : Type 0 where
  along_value : (p q : ℕ) → In (Ports (record { node = a; index = p }) (record { node = b; index = q })) g.links → q < length (ins_of (op_at g b)) → Edge g a b
  along_order : In (Order a b) g.links → Edge g a b

pub data Path (g : Graph) : ℕ → ℕ → Type 0 where
  edge : {a b : ℕ} → Edge g a b → Path g a b
  joined : {a b c : ℕ} → Path g a b → Path g b c → Path g a c

abbrev pub IsOnNoCycle : Graph → ℕ → Type 0
IsOnNoCycle g n = Path g n n → ⊥

-- ---- 11. Each control output port has exactly one link, and its target has as `ins` or types that row followed by
-- `others`. Of the block.
abbrev pub block_ins : Op → Types
block_ins (DataflowBlock ins rows others) = ins
block_ins (ExitBlock types) = types
block_ins _ = []

pub record HasSuccessor (g : Graph) (n k : ℕ) (row others : Types) : Type 0 where
  pub once : links_from g.links (record { node = n; index = k }) ≡ 1
  pub target : Port
  pub is_target : taker g.links (record { node = n; index = k }) ≡ Some target
  pub is_block : is_block (op_at g target.node) ≡ true
  pub fits : block_ins (op_at g target.node) ≡ row ++ others

abbrev pub HasSuccessors : Graph → ℕ → List Types → Types → Type 0
HasSuccessors g n rows others = (k : ℕ) (row : Types) → slice_get rows k ≡ Some row → HasSuccessor g n k row others

-- ---- 12. Each `Call`, `LoadConstant` and `LoadFunction` has exactly one static link, and the parent of a linked `Const`
-- is an ancestor of the `LoadConstant`.
pub data IsAncestor (g : Graph) (a : ℕ) : ℕ → Type 0 where
  of_child : {n : ℕ} → parent_at g n ≡ a → IsAncestor g a n
  of_further : {n : ℕ} → IsAncestor g a (parent_at g n) → IsAncestor g a n

-- the source of the static link into a node
pub record HasStatic (g : Graph) (n : ℕ) : Type 0 where
  pub once : links_into g.links (static_input g n) ≡ 1
  pub source : Port
  pub is_source : feeder g.links (static_input g n) ≡ Some source

pub record HasConstant (g : Graph) (n : ℕ) : Type 0 where
  pub static : HasStatic g n
  pub seen : IsAncestor g (parent_at g static.source.node) n

-- ---- 13. A `Call` and a `LoadFunction` have the `ins` and `outs` of their `FuncDefn`.
pub record HasCallee (g : Graph) (n : ℕ) (ins outs : Types) : Type 0 where
  pub source : Port
  pub is_source : feeder g.links (static_input g n) ≡ Some source
  pub name : List ℕ
  pub is_function : op_at g source.node ≡ FuncDefn name ins outs

-- ---- 14. No two `FuncDefn` have the same name. Of the later one.
abbrev pub name_of : Op → Option (List ℕ)
name_of (FuncDefn name ins outs) = Some name
name_of _ = None

abbrev pub HasNewName : Graph → ℕ → List ℕ → Type 0
HasNewName g n name = (m : ℕ) → m < n → name_of (op_at g m) ≢ Some name

-- ---- the rules by number
pub data Rule : Type 0 where
  Places : Rule
  Children : Rule
  Boundaries : Rule
  Blocks : Rule
  Cases : Rule
  Links : Rule
  Inputs : Rule
  LinearOutputs : Rule
  SameParent : Rule
  NoCycle : Rule
  Successors : Rule
  StaticLinks : Rule
  Callees : Rule
  Names : Rule
  VariantsAndTags : Rule

abbrev pub number_of : Rule → ℕ
number_of Places = 1
number_of Children = 2
number_of Boundaries = 3
number_of Blocks = 4
number_of Cases = 5
number_of Links = 6
number_of Inputs = 7
number_of LinearOutputs = 8
number_of SameParent = 9
number_of NoCycle = 10
number_of Successors = 11
number_of StaticLinks = 12
number_of Callees = 13
number_of Names = 14
number_of VariantsAndTags = 15

abbrev pub KeepsBlocks : Graph → ℕ → Op → Type 0
KeepsBlocks g n (Cfg ins outs) = HasBlocks g n ins outs
KeepsBlocks g n _ = Unit {0}

abbrev pub KeepsCases : Graph → ℕ → Op → Type 0
KeepsCases g n (Conditional rows ins outs) = HasCases g n rows ins outs
KeepsCases g n _ = Unit {0}

abbrev pub KeepsSuccessors : Graph → ℕ → Op → Type 0
KeepsSuccessors g n (DataflowBlock ins rows others) = HasSuccessors g n rows others
KeepsSuccessors g n _ = Unit {0}

abbrev pub KeepsStatic : Graph → ℕ → Op → Type 0
KeepsStatic g n (Call ins outs) = HasStatic g n
KeepsStatic g n (LoadFunction ins outs) = HasStatic g n
KeepsStatic g n LoadConstant = HasConstant g n
KeepsStatic g n _ = Unit {0}

abbrev pub KeepsCallee : Graph → ℕ → Op → Type 0
KeepsCallee g n (Call ins outs) = HasCallee g n ins outs
KeepsCallee g n (LoadFunction ins outs) = HasCallee g n ins outs
KeepsCallee g n _ = Unit {0}

abbrev pub KeepsName : Graph → ℕ → Op → Type 0
KeepsName g n (FuncDefn name ins outs) = HasNewName g n name
KeepsName g n _ = Unit {0}

-- 15. `rows` of a `Tag`, `Conditional` or `DataflowBlock` has at least one row, the tag of a `Tag` is less than their
-- number, and a result's tag is 1 to 255 printable characters.
abbrev pub KeepsTags : Op → Type 0
KeepsTags (Tag rows tag) = (0 < length rows) × (tag < length rows)
KeepsTags (Conditional rows ins outs) = 0 < length rows
KeepsTags (DataflowBlock ins rows others) = 0 < length rows
KeepsTags (Ext (ResultInt tag)) = IsTag tag
KeepsTags (Ext (ResultBool tag)) = IsTag tag
KeepsTags _ = Unit {0}

-- node n keeps the rule
abbrev pub Keeps : Graph → Rule → ℕ → Type 0
Keeps g Places n = HasPlace g n
Keeps g Children n = SuitsParent g n
Keeps g Boundaries n = is_dataflow_container (op_at g n) ≡ true → HasBoundary g n
Keeps g Blocks n = KeepsBlocks g n (op_at g n)
Keeps g Cases n = KeepsCases g n (op_at g n)
Keeps g Links n = LinksJoin g n
Keeps g Inputs n = InputsAreFed g n
Keeps g LinearOutputs n = LinearOutputsAreTaken g n
Keeps g SameParent n = LinksStayInside g n
Keeps g NoCycle n = IsOnNoCycle g n
Keeps g Successors n = KeepsSuccessors g n (op_at g n)
Keeps g StaticLinks n = KeepsStatic g n (op_at g n)
Keeps g Callees n = KeepsCallee g n (op_at g n)
Keeps g Names n = KeepsName g n (op_at g n)
Keeps g VariantsAndTags n = KeepsTags (op_at g n)

-- every node keeps every rule
pub record IsValid (g : Graph) : Type 0 where
  pub graph : IsGraph g
  pub keeps : (rule : Rule) (n : ℕ) → n < length g.nodes → Keeps g rule n

-- the least rule that is broken, and the least node that breaks it
pub record IsBroken (g : Graph) (rule : Rule) (n : ℕ) : Type 0 where
  pub earlier_rules : (other : Rule) → number_of other < number_of rule → (m : ℕ) → m < length g.nodes → Keeps g other m
  pub earlier_nodes : (m : ℕ) → m < n → Keeps g rule m
  pub is_node : n < length g.nodes
  pub broken : Keeps g rule n → ⊥
