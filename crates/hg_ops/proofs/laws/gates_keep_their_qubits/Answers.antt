use Rattle.hg_ops.proofs.GateRows.{gates_keep_their_qubits_lem}
use Rattle.hg_ops.proofs.laws.gates_keep_their_qubits.Goals as goal

pub returns : goal.returns
returns c = gates_keep_their_qubits_lem
