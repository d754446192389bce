use Rattle.std.proofs.Common.{◌≡◌, ◌++◌, replicate}
use Rattle.hg_ops.specs.GraphType.{Int, Qubit}
use Rattle.hg_ops.specs.Gates.{gate_outs}
use Rattle.hg_ops.specs.TypeView.{row_view}
use Rattle.hg_ops.proofs.gate.Gate.signature.Given as goal

-- one qubit each for every turn
abbrev pub invariant-loop : goal.invariant-loop
invariant-loop g l = record { ins : l.ins ≡ replicate l.counter Qubit; outs : l.outs ≡ replicate l.counter Qubit }

-- all qubits, and one angle for every turn
abbrev pub invariant-loop-2 : goal.invariant-loop-2
invariant-loop-2 g l = record { ins : l.ins ≡ replicate g.row.QUBITS Qubit ++ replicate l.counter Int; outs : row_view l.outs-inside ≡ gate_outs g.row.QUBITS }
