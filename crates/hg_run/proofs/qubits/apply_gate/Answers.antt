use Rattle.std.proofs.Common.{refl, sym}
use Rattle.hg_run.proofs.Lives.{gate_live, gate_dead}
use Rattle.hg_run.proofs.qubits.apply_gate.Goals as goal

pub returns-in-None : goal.returns-in-None
returns-in-None c = record { makes = λ events. c.in-None.ensures _ _; picks = refl }

pub returns-then-is_live : goal.returns-then-is_live
returns-then-is_live c = record { makes = λ events. gate_live c.args.name c.args.ins c.in-Some.q _ c.in-Some.ensures (sym c.if-is_live.ensures); picks = refl }

pub returns-else-is_live : goal.returns-else-is_live
returns-else-is_live c = record { makes = λ events. gate_dead c.args.name c.args.ins c.in-Some.q _ c.in-Some.ensures (sym c.if-is_live.ensures); picks = refl }
