-- The names of ops, and which op of an extension an `ExtOp` stands for.
use Rattle.std.specs.Prelude.{◌≡◌, ℕ, List, codes}
use Rattle.hg_ops.specs.declared.ext_op.ExtOp.{ExtOp}
use Rattle.hg_ops.specs.declared.ext_op.ExtOp.TheVariants as ext

-- the name of an op of an extension
abbrev pub ext_op_name : ExtOp → List ℕ
ext_op_name ext.Alloc = codes "quantum.alloc"
ext_op_name ext.Free = codes "quantum.free"
ext_op_name ext.MeasureFree = codes "quantum.measure_free"
ext_op_name ext.Measure = codes "quantum.measure"
ext_op_name ext.Reset = codes "quantum.reset"
ext_op_name ext.H = codes "quantum.h"
ext_op_name ext.X = codes "quantum.x"
ext_op_name ext.Y = codes "quantum.y"
ext_op_name ext.Z = codes "quantum.z"
ext_op_name ext.S = codes "quantum.s"
ext_op_name ext.Sdg = codes "quantum.sdg"
ext_op_name ext.T = codes "quantum.t"
ext_op_name ext.Tdg = codes "quantum.tdg"
ext_op_name ext.Cx = codes "quantum.cx"
ext_op_name ext.Cy = codes "quantum.cy"
ext_op_name ext.Cz = codes "quantum.cz"
ext_op_name ext.Toffoli = codes "quantum.toffoli"
ext_op_name ext.Rx = codes "quantum.rx"
ext_op_name ext.Ry = codes "quantum.ry"
ext_op_name ext.Rz = codes "quantum.rz"
ext_op_name ext.ResultInt = codes "result.int"
ext_op_name ext.ResultBool = codes "result.bool"
ext_op_name ext.Add = codes "int.add"
ext_op_name ext.Sub = codes "int.sub"
ext_op_name ext.Mul = codes "int.mul"
ext_op_name ext.FloorDiv = codes "int.floordiv"
ext_op_name ext.Mod = codes "int.mod"
ext_op_name ext.Neg = codes "int.neg"
ext_op_name ext.IntEq = codes "int.eq"
ext_op_name ext.IntNe = codes "int.ne"
ext_op_name ext.Lt = codes "int.lt"
ext_op_name ext.Le = codes "int.le"
ext_op_name ext.Gt = codes "int.gt"
ext_op_name ext.Ge = codes "int.ge"
ext_op_name ext.Not = codes "bool.not"
ext_op_name ext.BoolEq = codes "bool.eq"
ext_op_name ext.BoolNe = codes "bool.ne"
ext_op_name ext.Unpack = codes "prelude.unpack"

-- no two ops have one name
abbrev pub OpNamesAreDistinct : Type 0
OpNamesAreDistinct = (a b : ExtOp) → ext_op_name a ≡ ext_op_name b → a ≡ b
