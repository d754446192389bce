-- The graph that a text stands for, or why it has none. The data of a text is `serde_json`'s reading of
-- it, in which of equal keys the last stands, and a number is whole where it is read as one of 64 bits.
use Rattle.std.specs.Prelude.{ℕ, ℤ, suc, List, [], ◌∷◌, length, Option, Some, None, Result, Ok, Err, nat_lt, codes, bytes_eq, ◌==◌, if◌then◌else◌}
use Rattle.std.specs.Str.{is_utf8}
use Rattle.serde_json.specs.Data.{Data, null, Items, no_items, item}
use Rattle.serde_json.specs.Read.{read}
use Rattle.serde_json.specs.Find.{get, as_str, as_array, as_number, as_u64, as_i64}
use Rattle.hg_ops.specs.GraphType.{GraphType}
use Rattle.hg_ops.specs.Op.{Types, Op, Module, FuncDefn, Const, Input, Output, Dfg, Cfg, DataflowBlock, ExitBlock, Conditional, Case, TailLoop, Tag, Call, CallIndirect, LoadConstant, LoadFunction, Ext, Alloc, Free, MeasureFree, Measure, Reset, Gate1, H, X, Y, Z, S, Sdg, T, Tdg, Gate2, Cx, Cy, Cz, Toffoli, Rotation, Rx, Ry, Rz, ResultInt, ResultBool, Calculate, Add, Sub, Mul, Divide, FloorDiv, Mod, Negate, Compare, Eq, Ne, Lt, Le, Gt, Ge, Not, CompareBools, BoolEq, BoolNe, Unpack}
use Rattle.hg_ops.specs.declared.ext_op.ExtOp.{ExtOp}
use Rattle.hg_ops.specs.declared.ext_op.ExtOp.TheVariants as ext
use Rattle.hg_graph.specs.Graph.{Node, Port, Link, Ports, Order, Graph}
use Rattle.hg_json.specs.ExtNames.{ext_op_named}
use Rattle.hg_json.specs.Steps.{◌>>=◌, when}
use Rattle.hg_json.specs.TypeText.{has_functions, type_of}
use Rattle.hg_json.specs.declared.profile.Profile.{Profile}
use Rattle.hg_json.specs.declared.profile.Profile.TheVariants as profile

-- Why a text stands for no graph. Entries of `nodes` and `edges` are counted from 0.
pub data Refusal : Type 0 where
  NotJson : Refusal
  Top : Refusal
  Version : Refusal
  BadNode : ℕ → Refusal
  BadLink : ℕ → Refusal

-- ---- the kinds of keys

-- a whole number from 0 to 2 ^ 64 - 1
abbrev pub natural_of : Data → Option ℕ
natural_of d = as_number d >>= as_u64

-- the text at a key
abbrev pub text_at : List ℕ → Data → Option (List ℕ)
text_at key d = get key d >>= as_str

-- the whole number at a key
abbrev pub natural_at : List ℕ → Data → Option ℕ
natural_at key d = get key d >>= natural_of

-- the items of the list at a key
abbrev pub items_at : List ℕ → Data → Option Items
items_at key d = get key d >>= as_array

-- the whole number of 64 bits with a sign at a key
abbrev pub integer_at : List ℕ → Data → Option ℤ
integer_at key d = get key d >>= λ value. as_number value >>= as_i64

-- what each item stands for, where each stands for something
unfoldable pub all_of : {A : Type 0} → (Data → Option A) → Items → Option (List A)
all_of f no_items = Some []
all_of f (item d ds) = f d >>= λ x. all_of f ds >>= λ xs. Some (x ∷ xs)

-- a type by its text, a list of them, and a list of such lists
unfoldable pub type_in : Profile → Data → Option GraphType
type_in version d = as_str d >>= type_of version

unfoldable pub row_in : Profile → Data → Option Types
row_in version d = as_array d >>= all_of (type_in version)

unfoldable pub rows_in : Profile → Data → Option (List Types)
rows_in version d = as_array d >>= all_of (row_in version)

-- the list of types at a key, and the list of such lists
unfoldable pub row_at : Profile → List ℕ → Data → Option Types
row_at version key d = get key d >>= row_in version

unfoldable pub rows_at : Profile → List ℕ → Data → Option (List Types)
rows_at version key d = get key d >>= rows_in version

-- ---- nodes: the keys of each op that has any, and then a row for each op

module _ (version : Profile) where
  unfoldable pub func_defn : Data → Option Op
  func_defn d = text_at (codes "name") d >>= λ name. row_at version (codes "ins") d >>= λ ins. row_at version (codes "outs") d >>= λ outs. Some (FuncDefn name ins outs)

  unfoldable pub input : Data → Option Op
  input d = row_at version (codes "types") d >>= λ types. Some (Input types)

  unfoldable pub output : Data → Option Op
  output d = row_at version (codes "types") d >>= λ types. Some (Output types)

  unfoldable pub dfg : Data → Option Op
  dfg d = row_at version (codes "ins") d >>= λ ins. row_at version (codes "outs") d >>= λ outs. Some (Dfg ins outs)

  unfoldable pub cfg : Data → Option Op
  cfg d = row_at version (codes "ins") d >>= λ ins. row_at version (codes "outs") d >>= λ outs. Some (Cfg ins outs)

  unfoldable pub dataflow_block : Data → Option Op
  dataflow_block d =
      row_at version (codes "ins") d >>= λ ins. rows_at version (codes "rows") d >>= λ rows.
      row_at version (codes "others") d >>= λ others. Some (DataflowBlock ins rows others)

  unfoldable pub exit_block : Data → Option Op
  exit_block d = row_at version (codes "types") d >>= λ types. Some (ExitBlock types)

  unfoldable pub conditional : Data → Option Op
  conditional d =
      rows_at version (codes "rows") d >>= λ rows. row_at version (codes "ins") d >>= λ ins.
      row_at version (codes "outs") d >>= λ outs. Some (Conditional rows ins outs)

  unfoldable pub case_of : Data → Option Op
  case_of d = row_at version (codes "ins") d >>= λ ins. row_at version (codes "outs") d >>= λ outs. Some (Case ins outs)

  unfoldable pub tail_loop : Data → Option Op
  tail_loop d =
      row_at version (codes "again") d >>= λ again. row_at version (codes "leave") d >>= λ leave.
      row_at version (codes "rest") d >>= λ rest. Some (TailLoop again leave rest)

  unfoldable pub tag : Data → Option Op
  tag d = rows_at version (codes "rows") d >>= λ rows. natural_at (codes "tag") d >>= λ number. Some (Tag rows number)

  unfoldable pub call : Data → Option Op
  call d = row_at version (codes "ins") d >>= λ ins. row_at version (codes "outs") d >>= λ outs. Some (Call ins outs)

  -- the first version doesn't know this op and the next
  unfoldable pub call_indirect : Data → Option Op
  call_indirect d =
      when (has_functions version)
      (row_at version (codes "ins") d >>= λ ins. row_at version (codes "outs") d >>= λ outs. Some (CallIndirect ins outs))

  unfoldable pub load_function : Data → Option Op
  load_function d =
      when (has_functions version)
      (row_at version (codes "ins") d >>= λ ins. row_at version (codes "outs") d >>= λ outs. Some (LoadFunction ins outs))

  unfoldable pub unpack : Data → Option Op
  unpack d = row_at version (codes "types") d >>= λ types. Some (Ext (Unpack types))

-- a whole number
unfoldable pub constant : Data → Option Op
constant d = integer_at (codes "value") d >>= λ value. Some (Const value)

unfoldable pub result_int : Data → Option Op
result_int d = text_at (codes "tag") d >>= λ text. Some (Ext (ResultInt text))

unfoldable pub result_bool : Data → Option Op
result_bool d = text_at (codes "tag") d >>= λ text. Some (Ext (ResultBool text))

-- an op of an extension, with its keys
unfoldable pub extension_op : Profile → ExtOp → Data → Option Op
extension_op version ext.ResultInt d = result_int d
extension_op version ext.ResultBool d = result_bool d
extension_op version ext.Unpack d = unpack version d
extension_op version ext.Alloc d = Some (Ext Alloc)
extension_op version ext.Free d = Some (Ext Free)
extension_op version ext.MeasureFree d = Some (Ext MeasureFree)
extension_op version ext.Measure d = Some (Ext Measure)
extension_op version ext.Reset d = Some (Ext Reset)
extension_op version ext.H d = Some (Ext (Gate1 H))
extension_op version ext.X d = Some (Ext (Gate1 X))
extension_op version ext.Y d = Some (Ext (Gate1 Y))
extension_op version ext.Z d = Some (Ext (Gate1 Z))
extension_op version ext.S d = Some (Ext (Gate1 S))
extension_op version ext.Sdg d = Some (Ext (Gate1 Sdg))
extension_op version ext.T d = Some (Ext (Gate1 T))
extension_op version ext.Tdg d = Some (Ext (Gate1 Tdg))
extension_op version ext.Cx d = Some (Ext (Gate2 Cx))
extension_op version ext.Cy d = Some (Ext (Gate2 Cy))
extension_op version ext.Cz d = Some (Ext (Gate2 Cz))
extension_op version ext.Toffoli d = Some (Ext Toffoli)
extension_op version ext.Rx d = Some (Ext (Rotation Rx))
extension_op version ext.Ry d = Some (Ext (Rotation Ry))
extension_op version ext.Rz d = Some (Ext (Rotation Rz))
extension_op version ext.Add d = Some (Ext (Calculate Add))
extension_op version ext.Sub d = Some (Ext (Calculate Sub))
extension_op version ext.Mul d = Some (Ext (Calculate Mul))
extension_op version ext.FloorDiv d = Some (Ext (Divide FloorDiv))
extension_op version ext.Mod d = Some (Ext (Divide Mod))
extension_op version ext.Neg d = Some (Ext Negate)
extension_op version ext.IntEq d = Some (Ext (Compare Eq))
extension_op version ext.IntNe d = Some (Ext (Compare Ne))
extension_op version ext.Lt d = Some (Ext (Compare Lt))
extension_op version ext.Le d = Some (Ext (Compare Le))
extension_op version ext.Gt d = Some (Ext (Compare Gt))
extension_op version ext.Ge d = Some (Ext (Compare Ge))
extension_op version ext.Not d = Some (Ext Not)
extension_op version ext.BoolEq d = Some (Ext (CompareBools BoolEq))
extension_op version ext.BoolNe d = Some (Ext (CompareBools BoolNe))

-- the op of an extension of this name
unfoldable pub extension_named : Profile → List ℕ → Data → Option Op
extension_named version name d = ext_op_named name >>= λ op. extension_op version op d

-- an op inside a region that is no container, or an op of an extension
unfoldable pub plain_named : Profile → List ℕ → Data → Option Op
plain_named version name d =
    if bytes_eq name (codes "Input") then input version d else
    (if bytes_eq name (codes "Output") then output version d else
    (if bytes_eq name (codes "Tag") then tag version d else
    (if bytes_eq name (codes "Call") then call version d else
    (if bytes_eq name (codes "CallIndirect") then call_indirect version d else
    (if bytes_eq name (codes "LoadConstant") then Some LoadConstant else
    (if bytes_eq name (codes "LoadFunction") then load_function version d else
    extension_named version name d))))))

-- the op of this name, with its keys
unfoldable pub op_named : Profile → List ℕ → Data → Option Op
op_named version name d =
    if bytes_eq name (codes "Module") then Some Module else
    (if bytes_eq name (codes "FuncDefn") then func_defn version d else
    (if bytes_eq name (codes "Const") then constant d else
    (if bytes_eq name (codes "DFG") then dfg version d else
    (if bytes_eq name (codes "CFG") then cfg version d else
    (if bytes_eq name (codes "DataflowBlock") then dataflow_block version d else
    (if bytes_eq name (codes "ExitBlock") then exit_block version d else
    (if bytes_eq name (codes "Conditional") then conditional version d else
    (if bytes_eq name (codes "Case") then case_of version d else
    (if bytes_eq name (codes "TailLoop") then tail_loop version d else
    plain_named version name d)))))))))

-- a node of a graph of `total` nodes
unfoldable pub node_of : Profile → ℕ → Data → Option Node
node_of version total d =
    text_at (codes "op") d >>= λ name. natural_at (codes "parent") d >>= λ parent.
    when (nat_lt parent total) (op_named version name d >>= λ op. Some (record { op = op; parent = parent }))

-- ---- links

-- exactly two items
abbrev pub two : Items → Option (Data × Data)
two no_items = None
two (item a no_items) = None
two (item a (item b no_items)) = Some (a, b)
two (item a (item b (item c ds))) = None

-- the items of a list of two
abbrev pub pair_in : Data → Option (Data × Data)
pair_in d = as_array d >>= two

-- an end of a link: a port, or a node of an order link
pub data End : Type 0 where
  AtPort : Port → End
  AtNode : ℕ → End

-- the end at a node: a whole number is a port, and null is none
abbrev pub end_at : ℕ → Data → Option End
end_at node null = Some (AtNode node)
end_at node d = natural_of d >>= λ index. Some (AtPort (record { node = node; index = index }))

-- an end in a graph of `total` nodes
unfoldable pub end_of : ℕ → Data → Option End
end_of total d = pair_in d >>= λ pair. natural_of pair.0 >>= λ node. when (nat_lt node total) (end_at node pair.1)

-- two ends of one kind
abbrev pub joined : End → End → Option Link
joined (AtPort from) (AtPort to) = Some (Ports from to)
joined (AtNode before) (AtNode after) = Some (Order before after)
joined (AtPort from) (AtNode after) = None
joined (AtNode before) (AtPort to) = None

-- a link in a graph of `total` nodes
unfoldable pub link_of : ℕ → Data → Option Link
link_of total d = pair_in d >>= λ pair. end_of total pair.0 >>= λ from. end_of total pair.1 >>= λ to. joined from to

-- ---- the whole

-- what was found, or the refusal
abbrev pub or_refuse : {A : Type 0} → Refusal → Option A → Result A Refusal
or_refuse refusal None = Err refusal
or_refuse refusal (Some x) = Ok x

-- the second step on what the first gave
abbrev pub after : {A B : Type 0} → Result A Refusal → (A → Result B Refusal) → Result B Refusal
after (Err refusal) f = Err refusal
after (Ok x) f = f x

-- the entries, of which the first is entry k, or the refusal of the first that has no reading
unfoldable pub each : {A : Type 0} → (Data → Option A) → (ℕ → Refusal) → ℕ → Items → Result (List A) Refusal
each f refusal k no_items = Ok []
each f refusal k (item d ds) =
    after (or_refuse (refusal k) (f d)) (λ x. after (each f refusal (suc k) ds) (λ xs. Ok (x ∷ xs)))

-- the number of entries
abbrev pub count : Items → ℕ
count no_items = 0
count (item d ds) = suc (count ds)

-- the graph of these nodes with the links of the entries
unfoldable pub linked : List Node → Items → Result Graph Refusal
linked nodes edges = after (each (link_of (length nodes)) BadLink 0 edges) λ links. Ok (record { nodes = nodes; links = links })

-- the graph of the entries of `nodes` and `edges`
unfoldable pub entries_of : Profile → Items → Items → Result Graph Refusal
entries_of version nodes edges = after (each (node_of version (count nodes)) BadNode 0 nodes) λ found. linked found edges

-- the version of this name
unfoldable pub profile_named : List ℕ → Option Profile
profile_named name =
    if bytes_eq name (codes "profile-1") then Some profile.First else
    (if bytes_eq name (codes "profile-2") then Some profile.Second else None)

-- the graph of a text whose version has this name
unfoldable pub versioned : List ℕ → Items → Items → Result Graph Refusal
versioned name nodes edges =
    if count nodes == 0 then Err Top else
    after (or_refuse Version (profile_named name)) λ version. entries_of version nodes edges

-- the graph of an object
unfoldable pub graph_in : Data → Result Graph Refusal
graph_in d =
    after (or_refuse Top (text_at (codes "version") d)) λ version.
    after (or_refuse Top (items_at (codes "nodes") d)) λ nodes.
    after (or_refuse Top (items_at (codes "edges") d)) λ edges.
    versioned version nodes edges

-- the data of a text
unfoldable pub value_of : List ℕ → Result Data Refusal
value_of bytes = or_refuse NotJson (when (is_utf8 bytes) (read bytes))

-- the graph that a text stands for, or the first refusal
unfoldable pub graph_of : List ℕ → Result Graph Refusal
graph_of bytes = after (value_of bytes) graph_in
