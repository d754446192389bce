-- What contracts see of an op.
use Rattle.hg_ops.specs.declared.op_kind.OpKind.{OpKind}
use Rattle.hg_ops.specs.declared.op_kind.OpKind.TheVariants as kind
use Rattle.hg_ops.specs.Op

abbrev pub op_view : OpKind → Op.Op
op_view kind.Module = Op.Module
op_view (kind.FuncDefn name ins outs) = Op.FuncDefn name ins outs
op_view (kind.Const value) = Op.Const value
op_view (kind.Input types) = Op.Input types
op_view (kind.Output types) = Op.Output types
op_view (kind.Dfg ins outs) = Op.Dfg ins outs
op_view (kind.Cfg ins outs) = Op.Cfg ins outs
op_view (kind.DataflowBlock ins rows others) = Op.DataflowBlock ins rows others
op_view (kind.ExitBlock types) = Op.ExitBlock types
op_view (kind.Conditional rows ins outs) = Op.Conditional rows ins outs
op_view (kind.Case ins outs) = Op.Case ins outs
op_view (kind.TailLoop again leave rest) = Op.TailLoop again leave rest
op_view (kind.Tag rows tag) = Op.Tag rows tag
op_view (kind.Call ins outs) = Op.Call ins outs
op_view (kind.CallIndirect ins outs) = Op.CallIndirect ins outs
op_view kind.LoadConstant = Op.LoadConstant
op_view (kind.LoadFunction ins outs) = Op.LoadFunction ins outs
op_view kind.Alloc = Op.Ext Op.Alloc
op_view kind.Free = Op.Ext Op.Free
op_view kind.MeasureFree = Op.Ext Op.MeasureFree
op_view kind.Measure = Op.Ext Op.Measure
op_view kind.Reset = Op.Ext Op.Reset
op_view kind.H = Op.Ext (Op.Gate1 Op.H)
op_view kind.X = Op.Ext (Op.Gate1 Op.X)
op_view kind.Y = Op.Ext (Op.Gate1 Op.Y)
op_view kind.Z = Op.Ext (Op.Gate1 Op.Z)
op_view kind.S = Op.Ext (Op.Gate1 Op.S)
op_view kind.Sdg = Op.Ext (Op.Gate1 Op.Sdg)
op_view kind.T = Op.Ext (Op.Gate1 Op.T)
op_view kind.Tdg = Op.Ext (Op.Gate1 Op.Tdg)
op_view kind.Cx = Op.Ext (Op.Gate2 Op.Cx)
op_view kind.Cy = Op.Ext (Op.Gate2 Op.Cy)
op_view kind.Cz = Op.Ext (Op.Gate2 Op.Cz)
op_view kind.Toffoli = Op.Ext Op.Toffoli
op_view kind.Rx = Op.Ext (Op.Rotation Op.Rx)
op_view kind.Ry = Op.Ext (Op.Rotation Op.Ry)
op_view kind.Rz = Op.Ext (Op.Rotation Op.Rz)
op_view (kind.ResultInt tag) = Op.Ext (Op.ResultInt tag)
op_view (kind.ResultBool tag) = Op.Ext (Op.ResultBool tag)
op_view kind.Add = Op.Ext (Op.Calculate Op.Add)
op_view kind.Sub = Op.Ext (Op.Calculate Op.Sub)
op_view kind.Mul = Op.Ext (Op.Calculate Op.Mul)
op_view kind.FloorDiv = Op.Ext (Op.Divide Op.FloorDiv)
op_view kind.Mod = Op.Ext (Op.Divide Op.Mod)
op_view kind.Neg = Op.Ext Op.Negate
op_view kind.IntEq = Op.Ext (Op.Compare Op.Eq)
op_view kind.IntNe = Op.Ext (Op.Compare Op.Ne)
op_view kind.Lt = Op.Ext (Op.Compare Op.Lt)
op_view kind.Le = Op.Ext (Op.Compare Op.Le)
op_view kind.Gt = Op.Ext (Op.Compare Op.Gt)
op_view kind.Ge = Op.Ext (Op.Compare Op.Ge)
op_view kind.Not = Op.Ext Op.Not
op_view kind.BoolEq = Op.Ext (Op.CompareBools Op.BoolEq)
op_view kind.BoolNe = Op.Ext (Op.CompareBools Op.BoolNe)
op_view (kind.Unpack types) = Op.Ext (Op.Unpack types)
