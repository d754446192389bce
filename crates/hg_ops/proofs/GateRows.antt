-- The rows of gates.
use Rattle.std.proofs.Common.{◌≡◌, refl}
use Rattle.gp_base.specs.declared.event.GateName.{GateName}
use Rattle.gp_base.specs.declared.event.GateName.TheVariants.{H, X, Y, Z, S, Sdg, T, Tdg, Cx, Cy, Cz, Toffoli, Rx, Ry, Rz}
use Rattle.hg_ops.specs.Op.{ins_of, outs_of}
use Rattle.hg_ops.specs.Gates.{GatesKeepTheirQubits, gate_op, gate_ins, gate_outs, qubit_count, angle_count}

ins-gate_op : (name : GateName) → ins_of (gate_op name) ≡ gate_ins (qubit_count name) (angle_count name)
ins-gate_op H = refl
ins-gate_op X = refl
ins-gate_op Y = refl
ins-gate_op Z = refl
ins-gate_op S = refl
ins-gate_op Sdg = refl
ins-gate_op T = refl
ins-gate_op Tdg = refl
ins-gate_op Cx = refl
ins-gate_op Cy = refl
ins-gate_op Cz = refl
ins-gate_op Toffoli = refl
ins-gate_op Rx = refl
ins-gate_op Ry = refl
ins-gate_op Rz = refl

outs-gate_op : (name : GateName) → outs_of (gate_op name) ≡ gate_outs (qubit_count name)
outs-gate_op H = refl
outs-gate_op X = refl
outs-gate_op Y = refl
outs-gate_op Z = refl
outs-gate_op S = refl
outs-gate_op Sdg = refl
outs-gate_op T = refl
outs-gate_op Tdg = refl
outs-gate_op Cx = refl
outs-gate_op Cy = refl
outs-gate_op Cz = refl
outs-gate_op Toffoli = refl
outs-gate_op Rx = refl
outs-gate_op Ry = refl
outs-gate_op Rz = refl

pub gates_keep_their_qubits_lem : GatesKeepTheirQubits
gates_keep_their_qubits_lem = record { ins = ins-gate_op; outs = outs-gate_op }
