-- No entry of a graph's text has a float.
use Rattle.std.proofs.Common.{◌≡◌, ℕ, pos, negsuc, List, [], ◌∷◌, false, refl}
use Rattle.serde_json.specs.Data.{Data, object}
use Rattle.serde_json.specs.Written.{has_float, items_have_float}
use Rattle.hg_ops.specs.Op.{Types, Op, Module, FuncDefn, Const, Input, Output, Dfg, Cfg, DataflowBlock, ExitBlock, Conditional, Case, TailLoop, Tag, Call, CallIndirect, LoadConstant, LoadFunction, Ext, Alloc, Free, MeasureFree, Measure, Reset, Gate1, H, X, Y, Z, S, Sdg, T, Tdg, Gate2, Cx, Cy, Cz, Toffoli, Rotation, Rx, Ry, Rz, ResultInt, ResultBool, Calculate, Add, Sub, Mul, Divide, FloorDiv, Mod, Negate, Compare, Eq, Ne, Lt, Le, Gt, Ge, Not, CompareBools, BoolEq, BoolNe, Unpack}
use Rattle.hg_graph.specs.Graph.{Link, Ports, Order}
use Rattle.hg_json.specs.GraphText.{array_of, type_data, row_data, node_members, link_data}

all_whole : {A : Type 0} (data_of : A → Data) → ((x : A) → has_float (data_of x) ≡ false) → (xs : List A) → items_have_float (array_of data_of xs) ≡ false
all_whole data_of whole [] = refl
all_whole data_of whole (x ∷ xs) = rw (whole x) (all_whole data_of whole xs)

row_whole : (ts : Types) → items_have_float (array_of type_data ts) ≡ false
row_whole = all_whole type_data (λ t. refl)

rows_whole : (rows : List Types) → items_have_float (array_of row_data rows) ≡ false
rows_whole = all_whole row_data row_whole

pub node-whole : (op : Op) (parent : ℕ) → has_float (object (node_members op parent)) ≡ false
unfolding node_members
node-whole Module parent = refl
node-whole (FuncDefn name ins outs) parent = rw (row_whole ins, row_whole outs) refl
node-whole (Const (pos n)) parent = refl
node-whole (Const (negsuc n)) parent = refl
node-whole (Input types) parent = rw (row_whole types) refl
node-whole (Output types) parent = rw (row_whole types) refl
node-whole (Dfg ins outs) parent = rw (row_whole ins, row_whole outs) refl
node-whole (Cfg ins outs) parent = rw (row_whole ins, row_whole outs) refl
node-whole (DataflowBlock ins rows others) parent = rw (row_whole ins, rows_whole rows, row_whole others) refl
node-whole (ExitBlock types) parent = rw (row_whole types) refl
node-whole (Conditional rows ins outs) parent = rw (rows_whole rows, row_whole ins, row_whole outs) refl
node-whole (Case ins outs) parent = rw (row_whole ins, row_whole outs) refl
node-whole (TailLoop again leave rest) parent = rw (row_whole again, row_whole leave, row_whole rest) refl
node-whole (Tag rows tag) parent = rw (rows_whole rows) refl
node-whole (Call ins outs) parent = rw (row_whole ins, row_whole outs) refl
node-whole (CallIndirect ins outs) parent = rw (row_whole ins, row_whole outs) refl
node-whole LoadConstant parent = refl
node-whole (LoadFunction ins outs) parent = rw (row_whole ins, row_whole outs) refl
node-whole (Ext (ResultInt tag)) parent = refl
node-whole (Ext (ResultBool tag)) parent = refl
node-whole (Ext (Unpack types)) parent = rw (row_whole types) refl
node-whole (Ext Alloc) parent = refl
node-whole (Ext Free) parent = refl
node-whole (Ext MeasureFree) parent = refl
node-whole (Ext Measure) parent = refl
node-whole (Ext Reset) parent = refl
node-whole (Ext (Gate1 H)) parent = refl
node-whole (Ext (Gate1 X)) parent = refl
node-whole (Ext (Gate1 Y)) parent = refl
node-whole (Ext (Gate1 Z)) parent = refl
node-whole (Ext (Gate1 S)) parent = refl
node-whole (Ext (Gate1 Sdg)) parent = refl
node-whole (Ext (Gate1 T)) parent = refl
node-whole (Ext (Gate1 Tdg)) parent = refl
node-whole (Ext (Gate2 Cx)) parent = refl
node-whole (Ext (Gate2 Cy)) parent = refl
node-whole (Ext (Gate2 Cz)) parent = refl
node-whole (Ext Toffoli) parent = refl
node-whole (Ext (Rotation Rx)) parent = refl
node-whole (Ext (Rotation Ry)) parent = refl
node-whole (Ext (Rotation Rz)) parent = refl
node-whole (Ext (Calculate Add)) parent = refl
node-whole (Ext (Calculate Sub)) parent = refl
node-whole (Ext (Calculate Mul)) parent = refl
node-whole (Ext (Divide FloorDiv)) parent = refl
node-whole (Ext (Divide Mod)) parent = refl
node-whole (Ext Negate) parent = refl
node-whole (Ext (Compare Eq)) parent = refl
node-whole (Ext (Compare Ne)) parent = refl
node-whole (Ext (Compare Lt)) parent = refl
node-whole (Ext (Compare Le)) parent = refl
node-whole (Ext (Compare Gt)) parent = refl
node-whole (Ext (Compare Ge)) parent = refl
node-whole (Ext Not) parent = refl
node-whole (Ext (CompareBools BoolEq)) parent = refl
node-whole (Ext (CompareBools BoolNe)) parent = refl

pub link-whole : (link : Link) → has_float (link_data link) ≡ false
link-whole (Ports from to) = refl
link-whole (Order before after) = refl
