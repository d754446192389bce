-- The data of a graph in hand is plain and shallow.
use Rattle.std.proofs.Common.{◌≡◌, ℕ, pos, negsuc, ◌<◌, ◌≤◌, ◌^◌, List, [], ◌∷◌, length, IsUtf8, true, refl, arith}
use Rattle.std.specs.List.{All}
use Rattle.std.proofs.lemmas.List.Elements.{All-head, All-tail}
use Rattle.json.proofs.Printed.Utf8.{are_ascii, IsUtf8-are_ascii}
use Rattle.serde_json.specs.Data.{Data, items_depth, depth}
use Rattle.hg_ops.specs.GraphType.{GraphType, Int, Qubit, Sum, Function, Row, no_types, next, Rows, no_rows, next_row}
use Rattle.hg_ops.specs.Op.{Types, Op, Module, FuncDefn, Const, Input, Output, Dfg, Cfg, DataflowBlock, ExitBlock, Conditional, Case, TailLoop, Tag, Call, CallIndirect, LoadConstant, LoadFunction, Ext, Alloc, Free, MeasureFree, Measure, Reset, Gate1, H, X, Y, Z, S, Sdg, T, Tdg, Gate2, Cx, Cy, Cz, Toffoli, Rotation, Rx, Ry, Rz, ResultInt, ResultBool, Calculate, Add, Sub, Mul, Divide, FloorDiv, Mod, Negate, Compare, Eq, Ne, Lt, Le, Gt, Ge, Not, CompareBools, BoolEq, BoolNe, Unpack}
use Rattle.hg_graph.specs.Graph.{Link, Ports, Order, Graph}
use Rattle.hg_json.specs.InHand.{IsWithin, HasBounds, HasPorts, IsInHand}
use Rattle.hg_json.specs.GraphText.{array_of, type_data, row_data, node_members, node_data, link_data, graph_data}
use Rattle.hg_json.specs.TypeText.{type_onto, row_onto, more_types_onto, rows_onto, more_rows_onto, type_text}
use Rattle.hg_json.proofs.Compact.{IsPlain, ArePlain}

-- ---- the text of a type is ASCII

mutual
  type_ascii : (t : GraphType) (rest : List ℕ) → are_ascii rest ≡ true → are_ascii (type_onto t rest) ≡ true
  type_ascii Int rest h = h
  type_ascii Qubit rest h = h
  type_ascii (Sum rows) rest h = rows_ascii rows (41 ∷ rest) h
  type_ascii (Function ins outs) rest h = row_ascii ins _ (row_ascii outs (93 ∷ rest) h)

  row_ascii : (r : Row) (rest : List ℕ) → are_ascii rest ≡ true → are_ascii (row_onto r rest) ≡ true
  row_ascii no_types rest h = h
  row_ascii (next t ts) rest h = type_ascii t (more_types_onto ts rest) (more_types_ascii ts rest h)

  more_types_ascii : (r : Row) (rest : List ℕ) → are_ascii rest ≡ true → are_ascii (more_types_onto r rest) ≡ true
  more_types_ascii no_types rest h = h
  more_types_ascii (next t ts) rest h = type_ascii t (more_types_onto ts rest) (more_types_ascii ts rest h)

  rows_ascii : (rs : Rows) (rest : List ℕ) → are_ascii rest ≡ true → are_ascii (rows_onto rs rest) ≡ true
  rows_ascii no_rows rest h = h
  rows_ascii (next_row r rs) rest h = row_ascii r (more_rows_onto rs rest) (more_rows_ascii rs rest h)

  more_rows_ascii : (rs : Rows) (rest : List ℕ) → are_ascii rest ≡ true → are_ascii (more_rows_onto rs rest) ≡ true
  more_rows_ascii no_rows rest h = h
  more_rows_ascii (next_row r rs) rest h = row_ascii r (more_rows_onto rs rest) (more_rows_ascii rs rest h)

type_utf8 : (t : GraphType) → IsUtf8 (type_text t)
type_utf8 t = IsUtf8-are_ascii (type_text t) (type_ascii t [] refl)

each_plain : {A : Type 0} (data_of : A → Data) → ((x : A) → IsPlain (data_of x)) → (xs : List A) → ArePlain (array_of data_of xs)
each_plain data_of plain [] = tt
each_plain data_of plain (x ∷ xs) = (plain x, each_plain data_of plain xs)

row_plain : (ts : Types) → ArePlain (array_of type_data ts)
row_plain = each_plain type_data type_utf8

rows_plain : (rows : List Types) → ArePlain (array_of row_data rows)
rows_plain = each_plain row_data row_plain

-- ---- nodes and links

-- entries of which two facts are known
all_plain : {A : Type 0} (data_of : A → Data) (P Q : A → Type 0) → ((x : A) → P x → Q x → IsPlain (data_of x)) → (xs : List A) → All P xs → All Q xs → ArePlain (array_of data_of xs)
all_plain data_of P Q plain [] p q = tt
all_plain data_of P Q plain (x ∷ xs) p q = (plain x (All-head P x xs p) (All-head Q x xs q), all_plain data_of P Q plain xs (All-tail P x xs p) (All-tail Q x xs q))

op_plain : (op : Op) (parent : ℕ) → parent < 2 ^ 64 → HasBounds op → IsPlain (node_data (record { op = op; parent = parent }))
unfolding node_members
op_plain Module parent few bound = (refl, (IsUtf8-are_ascii _ refl, (few, tt)))
op_plain (FuncDefn name ins outs) parent few bound = (refl, (row_plain ins, (bound, (IsUtf8-are_ascii _ refl, (row_plain outs, (few, tt))))))
op_plain (Const (pos n)) parent few bound = (refl, (IsUtf8-are_ascii _ refl, (few, (omega (arith, bound), tt))))
op_plain (Const (negsuc n)) parent few bound = (refl, (IsUtf8-are_ascii _ refl, (few, (bound, tt))))
op_plain (Input types) parent few bound = (refl, (IsUtf8-are_ascii _ refl, (few, (row_plain types, tt))))
op_plain (Output types) parent few bound = (refl, (IsUtf8-are_ascii _ refl, (few, (row_plain types, tt))))
op_plain (Dfg ins outs) parent few bound = (refl, (row_plain ins, (IsUtf8-are_ascii _ refl, (row_plain outs, (few, tt)))))
op_plain (Cfg ins outs) parent few bound = (refl, (row_plain ins, (IsUtf8-are_ascii _ refl, (row_plain outs, (few, tt)))))
op_plain (DataflowBlock ins rows others) parent few bound = (refl, (row_plain ins, (IsUtf8-are_ascii _ refl, (row_plain others, (few, (rows_plain rows, tt))))))
op_plain (ExitBlock types) parent few bound = (refl, (IsUtf8-are_ascii _ refl, (few, (row_plain types, tt))))
op_plain (Conditional rows ins outs) parent few bound = (refl, (row_plain ins, (IsUtf8-are_ascii _ refl, (row_plain outs, (few, (rows_plain rows, tt))))))
op_plain (Case ins outs) parent few bound = (refl, (row_plain ins, (IsUtf8-are_ascii _ refl, (row_plain outs, (few, tt)))))
op_plain (TailLoop again leave rest) parent few bound = (refl, (row_plain again, (row_plain leave, (IsUtf8-are_ascii _ refl, (few, (row_plain rest, tt))))))
op_plain (Tag rows tag) parent few bound = (refl, (IsUtf8-are_ascii _ refl, (few, (rows_plain rows, (bound, tt)))))
op_plain (Call ins outs) parent few bound = (refl, (row_plain ins, (IsUtf8-are_ascii _ refl, (row_plain outs, (few, tt)))))
op_plain (CallIndirect ins outs) parent few bound = (refl, (row_plain ins, (IsUtf8-are_ascii _ refl, (row_plain outs, (few, tt)))))
op_plain LoadConstant parent few bound = (refl, (IsUtf8-are_ascii _ refl, (few, tt)))
op_plain (LoadFunction ins outs) parent few bound = (refl, (row_plain ins, (IsUtf8-are_ascii _ refl, (row_plain outs, (few, tt)))))
op_plain (Ext (ResultInt tag)) parent few bound = (refl, (IsUtf8-are_ascii _ refl, (few, (bound, tt))))
op_plain (Ext (ResultBool tag)) parent few bound = (refl, (IsUtf8-are_ascii _ refl, (few, (bound, tt))))
op_plain (Ext (Unpack types)) parent few bound = (refl, (IsUtf8-are_ascii _ refl, (few, (row_plain types, tt))))
op_plain (Ext Alloc) parent few bound = (refl, (IsUtf8-are_ascii _ refl, (few, tt)))
op_plain (Ext Free) parent few bound = (refl, (IsUtf8-are_ascii _ refl, (few, tt)))
op_plain (Ext MeasureFree) parent few bound = (refl, (IsUtf8-are_ascii _ refl, (few, tt)))
op_plain (Ext Measure) parent few bound = (refl, (IsUtf8-are_ascii _ refl, (few, tt)))
op_plain (Ext Reset) parent few bound = (refl, (IsUtf8-are_ascii _ refl, (few, tt)))
op_plain (Ext (Gate1 H)) parent few bound = (refl, (IsUtf8-are_ascii _ refl, (few, tt)))
op_plain (Ext (Gate1 X)) parent few bound = (refl, (IsUtf8-are_ascii _ refl, (few, tt)))
op_plain (Ext (Gate1 Y)) parent few bound = (refl, (IsUtf8-are_ascii _ refl, (few, tt)))
op_plain (Ext (Gate1 Z)) parent few bound = (refl, (IsUtf8-are_ascii _ refl, (few, tt)))
op_plain (Ext (Gate1 S)) parent few bound = (refl, (IsUtf8-are_ascii _ refl, (few, tt)))
op_plain (Ext (Gate1 Sdg)) parent few bound = (refl, (IsUtf8-are_ascii _ refl, (few, tt)))
op_plain (Ext (Gate1 T)) parent few bound = (refl, (IsUtf8-are_ascii _ refl, (few, tt)))
op_plain (Ext (Gate1 Tdg)) parent few bound = (refl, (IsUtf8-are_ascii _ refl, (few, tt)))
op_plain (Ext (Gate2 Cx)) parent few bound = (refl, (IsUtf8-are_ascii _ refl, (few, tt)))
op_plain (Ext (Gate2 Cy)) parent few bound = (refl, (IsUtf8-are_ascii _ refl, (few, tt)))
op_plain (Ext (Gate2 Cz)) parent few bound = (refl, (IsUtf8-are_ascii _ refl, (few, tt)))
op_plain (Ext Toffoli) parent few bound = (refl, (IsUtf8-are_ascii _ refl, (few, tt)))
op_plain (Ext (Rotation Rx)) parent few bound = (refl, (IsUtf8-are_ascii _ refl, (few, tt)))
op_plain (Ext (Rotation Ry)) parent few bound = (refl, (IsUtf8-are_ascii _ refl, (few, tt)))
op_plain (Ext (Rotation Rz)) parent few bound = (refl, (IsUtf8-are_ascii _ refl, (few, tt)))
op_plain (Ext (Calculate Add)) parent few bound = (refl, (IsUtf8-are_ascii _ refl, (few, tt)))
op_plain (Ext (Calculate Sub)) parent few bound = (refl, (IsUtf8-are_ascii _ refl, (few, tt)))
op_plain (Ext (Calculate Mul)) parent few bound = (refl, (IsUtf8-are_ascii _ refl, (few, tt)))
op_plain (Ext (Divide FloorDiv)) parent few bound = (refl, (IsUtf8-are_ascii _ refl, (few, tt)))
op_plain (Ext (Divide Mod)) parent few bound = (refl, (IsUtf8-are_ascii _ refl, (few, tt)))
op_plain (Ext Negate) parent few bound = (refl, (IsUtf8-are_ascii _ refl, (few, tt)))
op_plain (Ext (Compare Eq)) parent few bound = (refl, (IsUtf8-are_ascii _ refl, (few, tt)))
op_plain (Ext (Compare Ne)) parent few bound = (refl, (IsUtf8-are_ascii _ refl, (few, tt)))
op_plain (Ext (Compare Lt)) parent few bound = (refl, (IsUtf8-are_ascii _ refl, (few, tt)))
op_plain (Ext (Compare Le)) parent few bound = (refl, (IsUtf8-are_ascii _ refl, (few, tt)))
op_plain (Ext (Compare Gt)) parent few bound = (refl, (IsUtf8-are_ascii _ refl, (few, tt)))
op_plain (Ext (Compare Ge)) parent few bound = (refl, (IsUtf8-are_ascii _ refl, (few, tt)))
op_plain (Ext Not) parent few bound = (refl, (IsUtf8-are_ascii _ refl, (few, tt)))
op_plain (Ext (CompareBools BoolEq)) parent few bound = (refl, (IsUtf8-are_ascii _ refl, (few, tt)))
op_plain (Ext (CompareBools BoolNe)) parent few bound = (refl, (IsUtf8-are_ascii _ refl, (few, tt)))

link_plain : (total : ℕ) → total < 2 ^ 64 → (link : Link) → IsWithin total link → HasPorts link → IsPlain (link_data link)
link_plain total few (Ports from to) within ports = ((omega (arith, within.0), (ports.0, tt)), ((omega (arith, within.1), (ports.1, tt)), tt))
link_plain total few (Order before after) within ports = ((omega (arith, within.0), (tt, tt)), ((omega (arith, within.1), (tt, tt)), tt))

pub graph_plain : (g : Graph) → IsInHand g → IsPlain (graph_data g)
unfolding graph_data
graph_plain g h =
    let total = length g.nodes in
    let links = all_plain link_data (IsWithin total) HasPorts (link_plain total h.few) g.links h.ends_in h.ports in
    let nodes = all_plain node_data (λ n. n.parent < total) (λ n. HasBounds n.op) (λ n parent bound. op_plain n.op n.parent (omega (arith, parent, h.few)) bound) g.nodes h.parents_in h.bounds in
    (refl, (links, (nodes, (IsUtf8-are_ascii _ refl, tt))))

-- ---- how deep it nests

all_shallow : {A : Type 0} (data_of : A → Data) (k : ℕ) → ((x : A) → depth (data_of x) ≤ k) → (xs : List A) → items_depth (array_of data_of xs) ≤ k
all_shallow data_of k shallow [] = omega arith
all_shallow data_of k shallow (x ∷ xs) = omega (arith, shallow x, all_shallow data_of k shallow xs)

row_shallow : (ts : Types) → items_depth (array_of type_data ts) ≤ 0
row_shallow = all_shallow type_data 0 (λ t. omega arith)

rows_shallow : (rows : List Types) → items_depth (array_of row_data rows) ≤ 1
rows_shallow = all_shallow row_data 1 (λ ts. omega (arith, row_shallow ts))

op_shallow : (op : Op) (parent : ℕ) → depth (node_data (record { op = op; parent = parent })) ≤ 3
unfolding node_members
op_shallow Module parent = omega arith
op_shallow (FuncDefn name ins outs) parent = omega (arith, row_shallow ins, row_shallow outs)
op_shallow (Const value) parent = omega arith
op_shallow (Input types) parent = omega (arith, row_shallow types)
op_shallow (Output types) parent = omega (arith, row_shallow types)
op_shallow (Dfg ins outs) parent = omega (arith, row_shallow ins, row_shallow outs)
op_shallow (Cfg ins outs) parent = omega (arith, row_shallow ins, row_shallow outs)
op_shallow (DataflowBlock ins rows others) parent = omega (arith, row_shallow ins, rows_shallow rows, row_shallow others)
op_shallow (ExitBlock types) parent = omega (arith, row_shallow types)
op_shallow (Conditional rows ins outs) parent = omega (arith, rows_shallow rows, row_shallow ins, row_shallow outs)
op_shallow (Case ins outs) parent = omega (arith, row_shallow ins, row_shallow outs)
op_shallow (TailLoop again leave rest) parent = omega (arith, row_shallow again, row_shallow leave, row_shallow rest)
op_shallow (Tag rows tag) parent = omega (arith, rows_shallow rows)
op_shallow (Call ins outs) parent = omega (arith, row_shallow ins, row_shallow outs)
op_shallow (CallIndirect ins outs) parent = omega (arith, row_shallow ins, row_shallow outs)
op_shallow LoadConstant parent = omega arith
op_shallow (LoadFunction ins outs) parent = omega (arith, row_shallow ins, row_shallow outs)
op_shallow (Ext (ResultInt tag)) parent = omega arith
op_shallow (Ext (ResultBool tag)) parent = omega arith
op_shallow (Ext (Unpack types)) parent = omega (arith, row_shallow types)
op_shallow (Ext Alloc) parent = omega arith
op_shallow (Ext Free) parent = omega arith
op_shallow (Ext MeasureFree) parent = omega arith
op_shallow (Ext Measure) parent = omega arith
op_shallow (Ext Reset) parent = omega arith
op_shallow (Ext (Gate1 H)) parent = omega arith
op_shallow (Ext (Gate1 X)) parent = omega arith
op_shallow (Ext (Gate1 Y)) parent = omega arith
op_shallow (Ext (Gate1 Z)) parent = omega arith
op_shallow (Ext (Gate1 S)) parent = omega arith
op_shallow (Ext (Gate1 Sdg)) parent = omega arith
op_shallow (Ext (Gate1 T)) parent = omega arith
op_shallow (Ext (Gate1 Tdg)) parent = omega arith
op_shallow (Ext (Gate2 Cx)) parent = omega arith
op_shallow (Ext (Gate2 Cy)) parent = omega arith
op_shallow (Ext (Gate2 Cz)) parent = omega arith
op_shallow (Ext Toffoli) parent = omega arith
op_shallow (Ext (Rotation Rx)) parent = omega arith
op_shallow (Ext (Rotation Ry)) parent = omega arith
op_shallow (Ext (Rotation Rz)) parent = omega arith
op_shallow (Ext (Calculate Add)) parent = omega arith
op_shallow (Ext (Calculate Sub)) parent = omega arith
op_shallow (Ext (Calculate Mul)) parent = omega arith
op_shallow (Ext (Divide FloorDiv)) parent = omega arith
op_shallow (Ext (Divide Mod)) parent = omega arith
op_shallow (Ext Negate) parent = omega arith
op_shallow (Ext (Compare Eq)) parent = omega arith
op_shallow (Ext (Compare Ne)) parent = omega arith
op_shallow (Ext (Compare Lt)) parent = omega arith
op_shallow (Ext (Compare Le)) parent = omega arith
op_shallow (Ext (Compare Gt)) parent = omega arith
op_shallow (Ext (Compare Ge)) parent = omega arith
op_shallow (Ext Not) parent = omega arith
op_shallow (Ext (CompareBools BoolEq)) parent = omega arith
op_shallow (Ext (CompareBools BoolNe)) parent = omega arith

link_shallow : (link : Link) → depth (link_data link) ≤ 2
link_shallow (Ports from to) = omega arith
link_shallow (Order before after) = omega arith

pub graph_shallow : (g : Graph) → depth (graph_data g) ≤ 127
unfolding graph_data
graph_shallow g = omega (arith, all_shallow link_data 2 link_shallow g.links, all_shallow node_data 3 (λ n. op_shallow n.op n.parent) g.nodes)
