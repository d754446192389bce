use Rattle.std.proofs.Common.{◌≡◌, Some, map, option_map, take}
use Rattle.gp_meaning.specs.Value.{qubit}
use Rattle.gp_evaluator.specs.View.{value_view}
use Rattle.gp_evaluator.proofs.built_ins.qubits_of.Given as goal

-- the qubits so far
abbrev pub invariant-loop-number : goal.invariant-loop-number
invariant-loop-number l = map (option_map value_view) l.finals.items ≡ map (λ q. Some (qubit q)) (take l.number-index l.numbers)
