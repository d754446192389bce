-- What was written is read back.
use Rattle.std.proofs.Common.{◌≡◌, ℕ, ℤ, suc, pos, negsuc, ◌<◌, List, [], ◌∷◌, length, Option, Some, Ok, refl, ap, arith}
use Rattle.std.specs.Prelude.{codes}
use Rattle.std.specs.List.{All, AllByRecursion}
use Rattle.std.proofs.lemmas.Bool.{lt-ltb, ne_eqb}
use Rattle.std.proofs.lemmas.List.Elements.{All-head, All-tail}
use Rattle.std.proofs.lemmas.Str.{is_utf8-from_IsUtf8}
use Rattle.serde_json.specs.Data.{Data, object}
use Rattle.serde_json.specs.Find.{as_i64, of_integer}
use Rattle.hg_ops.specs.GraphType.{GraphType}
use Rattle.hg_ops.specs.Op.{Types, Op, Module, FuncDefn, Const, Input, Output, Dfg, Cfg, DataflowBlock, ExitBlock, Conditional, Case, TailLoop, Tag, Call, CallIndirect, LoadConstant, LoadFunction, Ext, Alloc, Free, MeasureFree, Measure, Reset, Gate1, H, X, Y, Z, S, Sdg, T, Tdg, Gate2, Cx, Cy, Cz, Toffoli, Rotation, Rx, Ry, Rz, ResultInt, ResultBool, Calculate, Add, Sub, Mul, Divide, FloorDiv, Mod, Negate, Compare, Eq, Ne, Lt, Le, Gt, Ge, Not, CompareBools, BoolEq, BoolNe, Unpack}
use Rattle.hg_graph.specs.Graph.{Link, Ports, Order, Graph}
use Rattle.hg_json.specs.ExtNames.{ext_op_named}
use Rattle.hg_json.specs.InHand.{IsSigned, HasBounds, IsWithin, HasPorts, IsInHand, IsSpelled, RowIsSpelled, RowsAreSpelled, HasSpelledTypes, AreSpelled}
use Rattle.hg_json.specs.GraphText.{array_of, type_data, row_data, rows_data, node_members, node_data, link_data, graph_data, json}
use Rattle.hg_json.specs.Reading.{Refusal, BadNode, BadLink, all_of, type_in, row_in, rows_in, row_at, rows_at, func_defn, input, output, dfg, cfg, dataflow_block, exit_block, conditional, case_of, tail_loop, tag, call, call_indirect, load_function, unpack, constant, result_int, result_bool, extension_op, extension_named, plain_named, op_named, node_of, end_of, link_of, each, count, linked, entries_of, profile_named, versioned, graph_in, value_of, graph_of}
use Rattle.hg_json.specs.declared.profile.Profile.TheVariants as profile
use Rattle.hg_json.proofs.Compact.{read_compact, compact_utf8}
use Rattle.hg_json.proofs.Plain.{graph_plain, graph_shallow}
use Rattle.hg_json.proofs.TypeBack.{type_again}

-- ---- types in lists

all_back : {A : Type 0} (f : Data → Option A) (data_of : A → Data) (P : A → Type 0) → ((x : A) → P x → f (data_of x) ≡ Some x) → (xs : List A) → AllByRecursion P xs → all_of f (array_of data_of xs) ≡ Some xs
unfolding all_of
all_back f data_of P back [] h = refl
all_back f data_of P back (x ∷ xs) h = rw (back x h.0, all_back f data_of P back xs h.1) refl

type_data_back : (t : GraphType) → IsSpelled t → type_in profile.Second (type_data t) ≡ Some t
unfolding type_in
type_data_back t h = type_again t h

row_back : (ts : Types) → RowIsSpelled ts → row_in profile.Second (row_data ts) ≡ Some ts
unfolding row_in
row_back ts h = all_back (type_in profile.Second) type_data IsSpelled type_data_back ts h

rows_back : (rows : List Types) → RowsAreSpelled rows → rows_in profile.Second (rows_data rows) ≡ Some rows
unfolding rows_in
rows_back rows h = all_back (row_in profile.Second) row_data RowIsSpelled row_back rows h

signed_back : (z : ℤ) → IsSigned z → as_i64 (of_integer z) ≡ Some z
signed_back (pos n) h = rw (lt-ltb n _ h) refl
signed_back (negsuc n) h = refl

-- ---- nodes and links

each_back : {A : Type 0} (f : Data → Option A) (data_of : A → Data) (refusal : ℕ → Refusal) (P Q : A → Type 0) → ((x : A) → P x → Q x → f (data_of x) ≡ Some x) → (k : ℕ) (xs : List A) → All P xs → All Q xs → each f refusal k (array_of data_of xs) ≡ Ok xs
unfolding each
each_back f data_of refusal P Q back k [] p q = refl
each_back f data_of refusal P Q back k (x ∷ xs) p q = rw (back x (All-head P x xs p) (All-head Q x xs q), each_back f data_of refusal P Q back (suc k) xs (All-tail P x xs p) (All-tail Q x xs q)) refl

op_back : (total parent : ℕ) (op : Op) → parent < total → HasBounds op → HasSpelledTypes op → node_of profile.Second total (object (node_members op parent)) ≡ Some (record { op = op; parent = parent })
unfolding node_members node_of op_named plain_named extension_named ext_op_named extension_op func_defn input output dfg cfg dataflow_block exit_block conditional case_of tail_loop tag call call_indirect load_function unpack constant result_int result_bool row_at rows_at
op_back total parent Module l bound spelled = rw (lt-ltb parent total l) refl
op_back total parent (FuncDefn name ins outs) l bound spelled = rw (lt-ltb parent total l, row_back ins spelled.0, row_back outs spelled.1) refl
op_back total parent (Const value) l bound spelled = rw (lt-ltb parent total l, signed_back value bound) refl
op_back total parent (Input types) l bound spelled = rw (lt-ltb parent total l, row_back types spelled) refl
op_back total parent (Output types) l bound spelled = rw (lt-ltb parent total l, row_back types spelled) refl
op_back total parent (Dfg ins outs) l bound spelled = rw (lt-ltb parent total l, row_back ins spelled.0, row_back outs spelled.1) refl
op_back total parent (Cfg ins outs) l bound spelled = rw (lt-ltb parent total l, row_back ins spelled.0, row_back outs spelled.1) refl
op_back total parent (DataflowBlock ins rows others) l bound spelled = rw (lt-ltb parent total l, row_back ins spelled.0, rows_back rows spelled.1, row_back others spelled.2) refl
op_back total parent (ExitBlock types) l bound spelled = rw (lt-ltb parent total l, row_back types spelled) refl
op_back total parent (Conditional rows ins outs) l bound spelled = rw (lt-ltb parent total l, rows_back rows spelled.0, row_back ins spelled.1, row_back outs spelled.2) refl
op_back total parent (Case ins outs) l bound spelled = rw (lt-ltb parent total l, row_back ins spelled.0, row_back outs spelled.1) refl
op_back total parent (TailLoop again leave rest) l bound spelled = rw (lt-ltb parent total l, row_back again spelled.0, row_back leave spelled.1, row_back rest spelled.2) refl
op_back total parent (Tag rows tag) l bound spelled = rw (lt-ltb parent total l, rows_back rows spelled) refl
op_back total parent (Call ins outs) l bound spelled = rw (lt-ltb parent total l, row_back ins spelled.0, row_back outs spelled.1) refl
op_back total parent (CallIndirect ins outs) l bound spelled = rw (lt-ltb parent total l, row_back ins spelled.0, row_back outs spelled.1) refl
op_back total parent LoadConstant l bound spelled = rw (lt-ltb parent total l) refl
op_back total parent (LoadFunction ins outs) l bound spelled = rw (lt-ltb parent total l, row_back ins spelled.0, row_back outs spelled.1) refl
op_back total parent (Ext (ResultInt tag)) l bound spelled = rw (lt-ltb parent total l) refl
op_back total parent (Ext (ResultBool tag)) l bound spelled = rw (lt-ltb parent total l) refl
op_back total parent (Ext (Unpack types)) l bound spelled = rw (lt-ltb parent total l, row_back types spelled) refl
op_back total parent (Ext Alloc) l bound spelled = rw (lt-ltb parent total l) refl
op_back total parent (Ext Free) l bound spelled = rw (lt-ltb parent total l) refl
op_back total parent (Ext MeasureFree) l bound spelled = rw (lt-ltb parent total l) refl
op_back total parent (Ext Measure) l bound spelled = rw (lt-ltb parent total l) refl
op_back total parent (Ext Reset) l bound spelled = rw (lt-ltb parent total l) refl
op_back total parent (Ext (Gate1 H)) l bound spelled = rw (lt-ltb parent total l) refl
op_back total parent (Ext (Gate1 X)) l bound spelled = rw (lt-ltb parent total l) refl
op_back total parent (Ext (Gate1 Y)) l bound spelled = rw (lt-ltb parent total l) refl
op_back total parent (Ext (Gate1 Z)) l bound spelled = rw (lt-ltb parent total l) refl
op_back total parent (Ext (Gate1 S)) l bound spelled = rw (lt-ltb parent total l) refl
op_back total parent (Ext (Gate1 Sdg)) l bound spelled = rw (lt-ltb parent total l) refl
op_back total parent (Ext (Gate1 T)) l bound spelled = rw (lt-ltb parent total l) refl
op_back total parent (Ext (Gate1 Tdg)) l bound spelled = rw (lt-ltb parent total l) refl
op_back total parent (Ext (Gate2 Cx)) l bound spelled = rw (lt-ltb parent total l) refl
op_back total parent (Ext (Gate2 Cy)) l bound spelled = rw (lt-ltb parent total l) refl
op_back total parent (Ext (Gate2 Cz)) l bound spelled = rw (lt-ltb parent total l) refl
op_back total parent (Ext Toffoli) l bound spelled = rw (lt-ltb parent total l) refl
op_back total parent (Ext (Rotation Rx)) l bound spelled = rw (lt-ltb parent total l) refl
op_back total parent (Ext (Rotation Ry)) l bound spelled = rw (lt-ltb parent total l) refl
op_back total parent (Ext (Rotation Rz)) l bound spelled = rw (lt-ltb parent total l) refl
op_back total parent (Ext (Calculate Add)) l bound spelled = rw (lt-ltb parent total l) refl
op_back total parent (Ext (Calculate Sub)) l bound spelled = rw (lt-ltb parent total l) refl
op_back total parent (Ext (Calculate Mul)) l bound spelled = rw (lt-ltb parent total l) refl
op_back total parent (Ext (Divide FloorDiv)) l bound spelled = rw (lt-ltb parent total l) refl
op_back total parent (Ext (Divide Mod)) l bound spelled = rw (lt-ltb parent total l) refl
op_back total parent (Ext Negate) l bound spelled = rw (lt-ltb parent total l) refl
op_back total parent (Ext (Compare Eq)) l bound spelled = rw (lt-ltb parent total l) refl
op_back total parent (Ext (Compare Ne)) l bound spelled = rw (lt-ltb parent total l) refl
op_back total parent (Ext (Compare Lt)) l bound spelled = rw (lt-ltb parent total l) refl
op_back total parent (Ext (Compare Le)) l bound spelled = rw (lt-ltb parent total l) refl
op_back total parent (Ext (Compare Gt)) l bound spelled = rw (lt-ltb parent total l) refl
op_back total parent (Ext (Compare Ge)) l bound spelled = rw (lt-ltb parent total l) refl
op_back total parent (Ext Not) l bound spelled = rw (lt-ltb parent total l) refl
op_back total parent (Ext (CompareBools BoolEq)) l bound spelled = rw (lt-ltb parent total l) refl
op_back total parent (Ext (CompareBools BoolNe)) l bound spelled = rw (lt-ltb parent total l) refl

link_back : (total : ℕ) (link : Link) → IsWithin total link → link_of total (link_data link) ≡ Some link
unfolding link_of end_of
link_back total (Ports from to) h = rw (lt-ltb from.node total h.0, lt-ltb to.node total h.1) refl
link_back total (Order before after) h = rw (lt-ltb before total h.0, lt-ltb after total h.1) refl

count_array : {A : Type 0} (data_of : A → Data) (xs : List A) → count (array_of data_of xs) ≡ length xs
count_array data_of [] = refl
count_array data_of (x ∷ xs) = ap suc (count_array data_of xs)

entries_back : (g : Graph) → IsInHand g → AreSpelled g → entries_of profile.Second (array_of node_data g.nodes) (array_of link_data g.links) ≡ Ok g
unfolding entries_of linked
entries_back g h spelled =
    let total = length g.nodes in
    let ops = each_back (node_of profile.Second total) node_data BadNode (λ n. (n.parent < total) × HasBounds n.op) (λ n. HasSpelledTypes n.op) (λ n p s. op_back total n.parent n.op p.0 p.1 s) 0 g.nodes (λ k d within. (h.parents_in k d within, h.bounds k d within)) spelled in
    let links = each_back (link_of total) link_data BadLink (IsWithin total) HasPorts (λ link within ports. link_back total link within) 0 g.links h.ends_in h.ports in
    rw (count_array node_data g.nodes, ops, links) refl

versioned_back : (g : Graph) → IsInHand g → AreSpelled g → versioned (codes "profile-2") (array_of node_data g.nodes) (array_of link_data g.links) ≡ Ok g
unfolding versioned profile_named
versioned_back g h spelled = rw (count_array node_data g.nodes, ne_eqb (length g.nodes) 0 (λ e. omega (arith, h.some, e))) (entries_back g h spelled)

data_back : (g : Graph) → IsInHand g → AreSpelled g → graph_in (graph_data g) ≡ Ok g
unfolding graph_in graph_data
data_back g h spelled = versioned_back g h spelled

pub graph_back : (g : Graph) → IsInHand g → AreSpelled g → graph_of (json g) ≡ Ok g
unfolding graph_of value_of json
graph_back g h spelled =
    let plain = graph_plain g h in
    rw (is_utf8-from_IsUtf8 _ (compact_utf8 (graph_data g) plain), read_compact (graph_data g) plain (graph_shallow g)) (data_back g h spelled)
