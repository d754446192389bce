-- The gates: their numbers of qubits and angles, and their ops.
use Rattle.std.specs.Prelude.{◌≡◌, ℕ, List, ◌++◌, replicate}
use Rattle.gp_base.specs.declared.event.GateName.{GateName}
use Rattle.gp_base.specs.declared.event.GateName.TheVariants.{H, X, Y, Z, S, Sdg, T, Tdg, Cx, Cy, Cz, Toffoli, Rx, Ry, Rz}
use Rattle.hg_ops.specs.GraphType.{GraphType, Int, Qubit}
use Rattle.hg_ops.specs.Op as op

abbrev pub qubit_count : GateName → ℕ
qubit_count H = 1
qubit_count X = 1
qubit_count Y = 1
qubit_count Z = 1
qubit_count S = 1
qubit_count Sdg = 1
qubit_count T = 1
qubit_count Tdg = 1
qubit_count Cx = 2
qubit_count Cy = 2
qubit_count Cz = 2
qubit_count Toffoli = 3
qubit_count Rx = 1
qubit_count Ry = 1
qubit_count Rz = 1

abbrev pub angle_count : GateName → ℕ
angle_count H = 0
angle_count X = 0
angle_count Y = 0
angle_count Z = 0
angle_count S = 0
angle_count Sdg = 0
angle_count T = 0
angle_count Tdg = 0
angle_count Cx = 0
angle_count Cy = 0
angle_count Cz = 0
angle_count Toffoli = 0
angle_count Rx = 1
angle_count Ry = 1
angle_count Rz = 1

-- a gate takes its qubits in order and then its angles, and gives its qubits in the same order
abbrev pub gate_ins : ℕ → ℕ → List GraphType
gate_ins qubits angles = replicate qubits Qubit ++ replicate angles Int

abbrev pub gate_outs : ℕ → List GraphType
gate_outs qubits = replicate qubits Qubit

-- the op that applies a gate
abbrev pub gate_op : GateName → op.Op
gate_op H = op.Ext (op.Gate1 op.H)
gate_op X = op.Ext (op.Gate1 op.X)
gate_op Y = op.Ext (op.Gate1 op.Y)
gate_op Z = op.Ext (op.Gate1 op.Z)
gate_op S = op.Ext (op.Gate1 op.S)
gate_op Sdg = op.Ext (op.Gate1 op.Sdg)
gate_op T = op.Ext (op.Gate1 op.T)
gate_op Tdg = op.Ext (op.Gate1 op.Tdg)
gate_op Cx = op.Ext (op.Gate2 op.Cx)
gate_op Cy = op.Ext (op.Gate2 op.Cy)
gate_op Cz = op.Ext (op.Gate2 op.Cz)
gate_op Toffoli = op.Ext op.Toffoli
gate_op Rx = op.Ext (op.Rotation op.Rx)
gate_op Ry = op.Ext (op.Rotation op.Ry)
gate_op Rz = op.Ext (op.Rotation op.Rz)

-- the rows of a gate's op follow from its numbers of qubits and angles
pub record GatesKeepTheirQubits : Type 0 where
  pub ins : (name : GateName) → op.ins_of (gate_op name) ≡ gate_ins (qubit_count name) (angle_count name)
  pub outs : (name : GateName) → op.outs_of (gate_op name) ≡ gate_outs (qubit_count name)
