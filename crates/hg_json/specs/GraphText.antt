-- The text of a graph: its data, written as `serde_json` writes it, without blanks and with the keys of
-- each object in the rising order of their bytes.
use Rattle.std.specs.Prelude.{ℕ, ℤ, List, map, codes}
use Rattle.serde_json.specs.Data.{unsigned, Data, null, number, string, array, object, Items, no_items, item, Members, no_members, member}
use Rattle.serde_json.specs.Find.{of_integer}
use Rattle.serde_json.specs.View.{items_of}
use Rattle.serde_json.specs.Written.{compact_text}
use Rattle.hg_ops.specs.GraphType.{GraphType}
use Rattle.hg_ops.specs.Names.{ext_op_name}
use Rattle.hg_ops.specs.Op.{Types, Op, Module, FuncDefn, Const, Input, Output, Dfg, Cfg, DataflowBlock, ExitBlock, Conditional, Case, TailLoop, Tag, Call, CallIndirect, LoadConstant, LoadFunction, Ext, Extension, ResultInt, ResultBool, Unpack}
use Rattle.hg_ops.specs.declared.ext_op.ExtOp.TheVariants as ext
use Rattle.hg_graph.specs.Graph.{Node, Link, Ports, Order, Graph}
use Rattle.hg_json.specs.ExtNames.{ext_op_of}
use Rattle.hg_json.specs.TypeText.{type_text}

-- the data of each entry
abbrev pub array_of : {A : Type 0} → (A → Data) → List A → Items
array_of f xs = items_of (map f xs)

-- a whole number
abbrev pub natural : ℕ → Data
natural n = number (unsigned n)

-- a type, a list of types, and a list of such lists
abbrev pub type_data : GraphType → Data
type_data t = string (type_text t)

abbrev pub row_data : Types → Data
row_data ts = array (array_of type_data ts)

abbrev pub rows_data : List Types → Data
rows_data rows = array (array_of row_data rows)

-- ---- the members of a node: a shape for each list of keys

-- an op without further keys
abbrev pub bare : List ℕ → ℕ → Members
bare op parent = member (codes "op") (string op) (member (codes "parent") (natural parent) no_members)

-- an op with a list of types
abbrev pub typed : List ℕ → Types → ℕ → Members
typed op types parent =
    member (codes "op") (string op) (member (codes "parent") (natural parent) (member (codes "types") (row_data types) no_members))

-- an op with inputs and outputs
abbrev pub two_rows : List ℕ → Types → Types → ℕ → Members
two_rows op ins outs parent =
    member (codes "ins") (row_data ins) (member (codes "op") (string op)
    (member (codes "outs") (row_data outs) (member (codes "parent") (natural parent) no_members)))

-- a result with its tag
abbrev pub tagged : List ℕ → List ℕ → ℕ → Members
tagged op tag parent =
    member (codes "op") (string op) (member (codes "parent") (natural parent) (member (codes "tag") (string tag) no_members))

abbrev pub function : List ℕ → Types → Types → ℕ → Members
function name ins outs parent =
    member (codes "ins") (row_data ins) (member (codes "name") (string name) (member (codes "op") (string (codes "FuncDefn"))
    (member (codes "outs") (row_data outs) (member (codes "parent") (natural parent) no_members))))

abbrev pub constant : ℤ → ℕ → Members
constant value parent =
    member (codes "op") (string (codes "Const")) (member (codes "parent") (natural parent)
    (member (codes "value") (number (of_integer value)) no_members))

abbrev pub block : Types → List Types → Types → ℕ → Members
block ins rows others parent =
    member (codes "ins") (row_data ins) (member (codes "op") (string (codes "DataflowBlock"))
    (member (codes "others") (row_data others) (member (codes "parent") (natural parent)
    (member (codes "rows") (rows_data rows) no_members))))

abbrev pub conditional : List Types → Types → Types → ℕ → Members
conditional rows ins outs parent =
    member (codes "ins") (row_data ins) (member (codes "op") (string (codes "Conditional"))
    (member (codes "outs") (row_data outs) (member (codes "parent") (natural parent)
    (member (codes "rows") (rows_data rows) no_members))))

abbrev pub tail_loop : Types → Types → Types → ℕ → Members
tail_loop again leave rest parent =
    member (codes "again") (row_data again) (member (codes "leave") (row_data leave) (member (codes "op") (string (codes "TailLoop"))
    (member (codes "parent") (natural parent) (member (codes "rest") (row_data rest) no_members))))

abbrev pub variant : List Types → ℕ → ℕ → Members
variant rows tag parent =
    member (codes "op") (string (codes "Tag")) (member (codes "parent") (natural parent)
    (member (codes "rows") (rows_data rows) (member (codes "tag") (natural tag) no_members)))

-- A row for each op: its name and its shape. Most ops of extensions have no keys.
abbrev pub extension_members : Extension → ℕ → Members
extension_members (ResultInt tag) parent = tagged (ext_op_name ext.ResultInt) tag parent
extension_members (ResultBool tag) parent = tagged (ext_op_name ext.ResultBool) tag parent
extension_members (Unpack types) parent = typed (ext_op_name ext.Unpack) types parent
extension_members op parent = bare (ext_op_name (ext_op_of op)) parent

unfoldable pub node_members : Op → ℕ → Members
node_members Module parent = bare (codes "Module") parent
node_members (FuncDefn name ins outs) parent = function name ins outs parent
node_members (Const value) parent = constant value parent
node_members (Input types) parent = typed (codes "Input") types parent
node_members (Output types) parent = typed (codes "Output") types parent
node_members (Dfg ins outs) parent = two_rows (codes "DFG") ins outs parent
node_members (Cfg ins outs) parent = two_rows (codes "CFG") ins outs parent
node_members (DataflowBlock ins rows others) parent = block ins rows others parent
node_members (ExitBlock types) parent = typed (codes "ExitBlock") types parent
node_members (Conditional rows ins outs) parent = conditional rows ins outs parent
node_members (Case ins outs) parent = two_rows (codes "Case") ins outs parent
node_members (TailLoop again leave rest) parent = tail_loop again leave rest parent
node_members (Tag rows tag) parent = variant rows tag parent
node_members (Call ins outs) parent = two_rows (codes "Call") ins outs parent
node_members (CallIndirect ins outs) parent = two_rows (codes "CallIndirect") ins outs parent
node_members LoadConstant parent = bare (codes "LoadConstant") parent
node_members (LoadFunction ins outs) parent = two_rows (codes "LoadFunction") ins outs parent
node_members (Ext op) parent = extension_members op parent

-- the data of a node
abbrev pub node_data : Node → Data
node_data node = object (node_members node.op node.parent)

-- a list of two
abbrev pub pair : Data → Data → Data
pair a b = array (item a (item b no_items))

-- a link of ports has their numbers, and an order link has null in place of both
abbrev pub link_data : Link → Data
link_data (Ports from to) = pair (pair (natural from.node) (natural from.index)) (pair (natural to.node) (natural to.index))
link_data (Order before after) = pair (pair (natural before) null) (pair (natural after) null)

-- the data of a graph
unfoldable pub graph_data : Graph → Data
graph_data g =
    object (member (codes "edges") (array (array_of link_data g.links)) (member (codes "nodes") (array (array_of node_data g.nodes)) (member (codes "version") (string (codes "profile-2")) no_members)))

-- the text of a graph
unfoldable pub json : Graph → List ℕ
json g = compact_text (graph_data g)
