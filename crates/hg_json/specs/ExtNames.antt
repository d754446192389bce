-- The ops of extensions by their names.
use Rattle.std.specs.Prelude.{ℕ, List, [], ◌∷◌, Option, bytes_eq}
use Rattle.std.specs.List.{find}
use Rattle.hg_ops.specs.Names.{ext_op_name}
use Rattle.hg_ops.specs.Op.{Extension, Alloc, Free, MeasureFree, Measure, Reset, Gate1, H, X, Y, Z, S, Sdg, T, Tdg, Gate2, Cx, Cy, Cz, Toffoli, Rotation, Rx, Ry, Rz, ResultInt, ResultBool, Calculate, Add, Sub, Mul, Divide, FloorDiv, Mod, Negate, Compare, Eq, Ne, Lt, Le, Gt, Ge, Not, CompareBools, BoolEq, BoolNe, Unpack}
use Rattle.hg_ops.specs.declared.ext_op.ExtOp.{ExtOp}
use Rattle.hg_ops.specs.declared.ext_op.ExtOp.TheVariants as ext

-- all of them
abbrev pub ext_ops : List ExtOp
ext_ops =
    ext.Alloc ∷ ext.Free ∷ ext.MeasureFree ∷ ext.Measure ∷ ext.Reset ∷ ext.H ∷ ext.X ∷ ext.Y ∷ ext.Z ∷ ext.S ∷ ext.Sdg ∷ ext.T ∷ ext.Tdg ∷ ext.Cx ∷ ext.Cy ∷ ext.Cz ∷ ext.Toffoli ∷ ext.Rx ∷ ext.Ry ∷ ext.Rz ∷
    ext.Add ∷ ext.Sub ∷ ext.Mul ∷ ext.FloorDiv ∷ ext.Mod ∷ ext.Neg ∷ ext.IntEq ∷ ext.IntNe ∷ ext.Lt ∷ ext.Le ∷ ext.Gt ∷ ext.Ge ∷ ext.Not ∷ ext.BoolEq ∷ ext.BoolNe ∷
    ext.ResultInt ∷ ext.ResultBool ∷ ext.Unpack ∷ []

-- the one of this name
unfoldable pub ext_op_named : List ℕ → Option ExtOp
ext_op_named name = find (λ op. bytes_eq (ext_op_name op) name) ext_ops

-- which op of an extension does this
abbrev pub ext_op_of : Extension → ExtOp
ext_op_of Alloc = ext.Alloc
ext_op_of Free = ext.Free
ext_op_of MeasureFree = ext.MeasureFree
ext_op_of Measure = ext.Measure
ext_op_of Reset = ext.Reset
ext_op_of (Gate1 H) = ext.H
ext_op_of (Gate1 X) = ext.X
ext_op_of (Gate1 Y) = ext.Y
ext_op_of (Gate1 Z) = ext.Z
ext_op_of (Gate1 S) = ext.S
ext_op_of (Gate1 Sdg) = ext.Sdg
ext_op_of (Gate1 T) = ext.T
ext_op_of (Gate1 Tdg) = ext.Tdg
ext_op_of (Gate2 Cx) = ext.Cx
ext_op_of (Gate2 Cy) = ext.Cy
ext_op_of (Gate2 Cz) = ext.Cz
ext_op_of Toffoli = ext.Toffoli
ext_op_of (Rotation Rx) = ext.Rx
ext_op_of (Rotation Ry) = ext.Ry
ext_op_of (Rotation Rz) = ext.Rz
ext_op_of (Calculate Add) = ext.Add
ext_op_of (Calculate Sub) = ext.Sub
ext_op_of (Calculate Mul) = ext.Mul
ext_op_of (Divide FloorDiv) = ext.FloorDiv
ext_op_of (Divide Mod) = ext.Mod
ext_op_of Negate = ext.Neg
ext_op_of (Compare Eq) = ext.IntEq
ext_op_of (Compare Ne) = ext.IntNe
ext_op_of (Compare Lt) = ext.Lt
ext_op_of (Compare Le) = ext.Le
ext_op_of (Compare Gt) = ext.Gt
ext_op_of (Compare Ge) = ext.Ge
ext_op_of Not = ext.Not
ext_op_of (CompareBools BoolEq) = ext.BoolEq
ext_op_of (CompareBools BoolNe) = ext.BoolNe
ext_op_of (ResultInt tag) = ext.ResultInt
ext_op_of (ResultBool tag) = ext.ResultBool
ext_op_of (Unpack types) = ext.Unpack
