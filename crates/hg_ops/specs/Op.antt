-- Ops as contracts see them, sorted by shape, with their ports.
use Rattle.std.specs.Prelude.{ℕ, ℤ, Bool, true, false, List, [], ◌∷◌, ◌++◌, map, slice_index_or}
use Rattle.gp_base.specs.declared.event.GateName.{GateName}
use Rattle.gp_base.specs.declared.event.GateName.TheVariants as name
use Rattle.hg_ops.specs.GraphType.{GraphType, Int, Qubit, sum_type, tuple_type, bool_type, function_type}

-- the types at some ports, in order
abbrev pub Types : Type 0
Types = List GraphType

-- ---- The ops of extensions. Gates of one shape differ by name alone, and no name has a wrong shape.

-- the gates on one qubit without an angle
pub data OneQubitGate : Type 0 where
  H : OneQubitGate
  X : OneQubitGate
  Y : OneQubitGate
  Z : OneQubitGate
  S : OneQubitGate
  Sdg : OneQubitGate
  T : OneQubitGate
  Tdg : OneQubitGate

pub data TwoQubitGate : Type 0 where
  Cx : TwoQubitGate
  Cy : TwoQubitGate
  Cz : TwoQubitGate

-- the gates on one qubit with an angle
pub data RotationGate : Type 0 where
  Rx : RotationGate
  Ry : RotationGate
  Rz : RotationGate

abbrev pub one_qubit_name : OneQubitGate → GateName
one_qubit_name H = name.H
one_qubit_name X = name.X
one_qubit_name Y = name.Y
one_qubit_name Z = name.Z
one_qubit_name S = name.S
one_qubit_name Sdg = name.Sdg
one_qubit_name T = name.T
one_qubit_name Tdg = name.Tdg

abbrev pub two_qubit_name : TwoQubitGate → GateName
two_qubit_name Cx = name.Cx
two_qubit_name Cy = name.Cy
two_qubit_name Cz = name.Cz

abbrev pub rotation_name : RotationGate → GateName
rotation_name Rx = name.Rx
rotation_name Ry = name.Ry
rotation_name Rz = name.Rz

-- what is made of two whole numbers by an op that always gives one
pub data Arithmetic : Type 0 where
  Add : Arithmetic
  Sub : Arithmetic
  Mul : Arithmetic

-- what is made of two whole numbers where the second isn't 0
pub data Division : Type 0 where
  FloorDiv : Division
  Mod : Division

pub data Comparison : Type 0 where
  Eq : Comparison
  Ne : Comparison
  Lt : Comparison
  Le : Comparison
  Gt : Comparison
  Ge : Comparison

pub data BoolComparison : Type 0 where
  BoolEq : BoolComparison
  BoolNe : BoolComparison

-- What an op of an extension does. A result has its tag.
pub data Extension : Type 0 where
  Alloc : Extension
  Free : Extension
  MeasureFree : Extension
  Measure : Extension
  Reset : Extension
  Gate1 : OneQubitGate → Extension
  Gate2 : TwoQubitGate → Extension
  Toffoli : Extension
  Rotation : RotationGate → Extension
  ResultInt : (tag : List ℕ) → Extension
  ResultBool : (tag : List ℕ) → Extension
  Calculate : Arithmetic → Extension
  Divide : Division → Extension
  Negate : Extension
  Compare : Comparison → Extension
  Not : Extension
  CompareBools : BoolComparison → Extension
  Unpack : (types : Types) → Extension

-- ---- The ops.

pub data Op : Type 0 where
  Module : Op
  FuncDefn : (name : List ℕ) (ins outs : Types) → Op
  Const : (value : ℤ) → Op
  Input : (types : Types) → Op
  Output : (types : Types) → Op
  Dfg : (ins outs : Types) → Op
  Cfg : (ins outs : Types) → Op
  DataflowBlock : (ins : Types) (rows : List Types) (others : Types) → Op
  ExitBlock : (types : Types) → Op
  Conditional : (rows : List Types) (ins outs : Types) → Op
  Case : (ins outs : Types) → Op
  TailLoop : (again leave rest : Types) → Op
  Tag : (rows : List Types) (tag : ℕ) → Op
  Call : (ins outs : Types) → Op
  CallIndirect : (ins outs : Types) → Op
  LoadConstant : Op
  LoadFunction : (ins outs : Types) → Op
  Ext : Extension → Op

-- ---- Value ports: their types, in the order of the ports.

abbrev pub extension_ins : Extension → List GraphType
extension_ins Alloc = []
extension_ins Free = Qubit ∷ []
extension_ins MeasureFree = Qubit ∷ []
extension_ins Measure = Qubit ∷ []
extension_ins Reset = Qubit ∷ []
extension_ins (Gate1 gate) = Qubit ∷ []
extension_ins (Gate2 gate) = Qubit ∷ Qubit ∷ []
extension_ins Toffoli = Qubit ∷ Qubit ∷ Qubit ∷ []
extension_ins (Rotation gate) = Qubit ∷ Int ∷ []
extension_ins (ResultInt tag) = Int ∷ []
extension_ins (ResultBool tag) = bool_type ∷ []
extension_ins (Calculate which) = Int ∷ Int ∷ []
extension_ins (Divide which) = Int ∷ Int ∷ []
extension_ins Negate = Int ∷ []
extension_ins (Compare which) = Int ∷ Int ∷ []
extension_ins Not = bool_type ∷ []
extension_ins (CompareBools which) = bool_type ∷ bool_type ∷ []
extension_ins (Unpack types) = tuple_type types ∷ []

abbrev pub extension_outs : Extension → List GraphType
extension_outs Alloc = Qubit ∷ []
extension_outs Free = []
extension_outs MeasureFree = bool_type ∷ []
extension_outs Measure = Qubit ∷ bool_type ∷ []
extension_outs Reset = Qubit ∷ []
extension_outs (Gate1 gate) = Qubit ∷ []
extension_outs (Gate2 gate) = Qubit ∷ Qubit ∷ []
extension_outs Toffoli = Qubit ∷ Qubit ∷ Qubit ∷ []
extension_outs (Rotation gate) = Qubit ∷ []
extension_outs (ResultInt tag) = []
extension_outs (ResultBool tag) = []
extension_outs (Calculate which) = Int ∷ []
extension_outs (Divide which) = Int ∷ []
extension_outs Negate = Int ∷ []
extension_outs (Compare which) = bool_type ∷ []
extension_outs Not = bool_type ∷ []
extension_outs (CompareBools which) = bool_type ∷ []
extension_outs (Unpack types) = types

abbrev pub ins_of : Op → List GraphType
ins_of (Output types) = types
ins_of (Dfg ins outs) = ins
ins_of (Cfg ins outs) = ins
ins_of (Conditional rows ins outs) = sum_type rows ∷ ins
ins_of (TailLoop again leave rest) = again ++ rest
ins_of (Tag rows tag) = slice_index_or rows tag []
ins_of (Call ins outs) = ins
ins_of (CallIndirect ins outs) = function_type ins outs ∷ ins
ins_of (Ext e) = extension_ins e
ins_of _ = []

abbrev pub outs_of : Op → List GraphType
outs_of (Input types) = types
outs_of (Dfg ins outs) = outs
outs_of (Cfg ins outs) = outs
outs_of (Conditional rows ins outs) = outs
outs_of (TailLoop again leave rest) = leave ++ rest
outs_of (Tag rows tag) = sum_type rows ∷ []
outs_of (Call ins outs) = outs
outs_of (CallIndirect ins outs) = outs
outs_of LoadConstant = Int ∷ []
outs_of (LoadFunction ins outs) = function_type ins outs ∷ []
outs_of (Ext e) = extension_outs e
outs_of _ = []

-- ---- All ports. What a port carries: a value of a type, the way on from a block, a function or a constant.

pub data PortKind : Type 0 where
  ValuePort : GraphType → PortKind
  ControlPort : PortKind
  FunctionPort : PortKind
  ConstantPort : PortKind

-- The ports behind the value ports. A function and a constant have a static output, and what uses them a static
-- input. A block has a control output for each row, and like an exit a control input.
abbrev pub other_inputs : Op → List PortKind
other_inputs (DataflowBlock ins rows others) = ControlPort ∷ []
other_inputs (ExitBlock types) = ControlPort ∷ []
other_inputs (Call ins outs) = FunctionPort ∷ []
other_inputs LoadConstant = ConstantPort ∷ []
other_inputs (LoadFunction ins outs) = FunctionPort ∷ []
other_inputs _ = []

abbrev pub other_outputs : Op → List PortKind
other_outputs (FuncDefn name ins outs) = FunctionPort ∷ []
other_outputs (Const value) = ConstantPort ∷ []
other_outputs (DataflowBlock ins rows others) = map (λ row. ControlPort) rows
other_outputs _ = []

-- the kind of each port, in the order of the ports; inputs and outputs are numbered apart, each from 0
abbrev pub input_ports : Op → List PortKind
input_ports op = map ValuePort (ins_of op) ++ other_inputs op

abbrev pub output_ports : Op → List PortKind
output_ports op = map ValuePort (outs_of op) ++ other_outputs op

-- ---- Regions.

-- what has a region of its own, whose values go from an `Input` to an `Output`
abbrev pub is_dataflow_container : Op → Bool
is_dataflow_container (FuncDefn name ins outs) = true
is_dataflow_container (Dfg ins outs) = true
is_dataflow_container (Case ins outs) = true
is_dataflow_container (DataflowBlock ins rows others) = true
is_dataflow_container (TailLoop again leave rest) = true
is_dataflow_container _ = false

-- the types that the `Input` of a dataflow container gives, and those that its `Output` takes
abbrev pub inner_ins : Op → List GraphType
inner_ins (FuncDefn name ins outs) = ins
inner_ins (Dfg ins outs) = ins
inner_ins (Case ins outs) = ins
inner_ins (DataflowBlock ins rows others) = ins
inner_ins (TailLoop again leave rest) = again ++ rest
inner_ins _ = []

abbrev pub inner_outs : Op → List GraphType
inner_outs (FuncDefn name ins outs) = outs
inner_outs (Dfg ins outs) = outs
inner_outs (Case ins outs) = outs
inner_outs (DataflowBlock ins rows others) = sum_type rows ∷ others
inner_outs (TailLoop again leave rest) = sum_type (again ∷ leave ∷ []) ∷ rest
inner_outs _ = []

-- what stands in a region and may have order links
abbrev pub is_operation : Op → Bool
is_operation (Input types) = true
is_operation (Output types) = true
is_operation (Dfg ins outs) = true
is_operation (Cfg ins outs) = true
is_operation (Conditional rows ins outs) = true
is_operation (TailLoop again leave rest) = true
is_operation (Tag rows tag) = true
is_operation (Call ins outs) = true
is_operation (CallIndirect ins outs) = true
is_operation LoadConstant = true
is_operation (LoadFunction ins outs) = true
is_operation (Ext e) = true
is_operation _ = false

-- what fires in a region: every child but `Input`, `Output` and `Const`
abbrev pub fires : Op → Bool
fires (Const value) = false
fires (Input types) = false
fires (Output types) = false
fires _ = true

-- ---- Effects: what may not change places in a run.

abbrev pub is_extension_effect : Extension → Bool
is_extension_effect Alloc = true
is_extension_effect Free = true
is_extension_effect MeasureFree = true
is_extension_effect Measure = true
is_extension_effect Reset = true
is_extension_effect (Gate1 gate) = true
is_extension_effect (Gate2 gate) = true
is_extension_effect Toffoli = true
is_extension_effect (Rotation gate) = true
is_extension_effect (ResultInt tag) = true
is_extension_effect (ResultBool tag) = true
is_extension_effect (Divide which) = true
is_extension_effect _ = false

-- the op takes a turn each time that it fires
abbrev pub takes_turn : Op → Bool
takes_turn (Call ins outs) = true
takes_turn (CallIndirect ins outs) = true
takes_turn _ = false

abbrev pub is_effect : Op → Bool
is_effect (Cfg ins outs) = true
is_effect (TailLoop again leave rest) = true
is_effect (Call ins outs) = true
is_effect (CallIndirect ins outs) = true
is_effect (Ext e) = is_extension_effect e
is_effect _ = false
