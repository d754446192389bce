use Rattle.walks.specs.code.Levels.{NeverRises}
use Rattle.walks.proofs.levels.never_rises.Given as goal

-- no link of the nodes so far leads to a higher level
abbrev pub invariant-loop-node : goal.invariant-loop-node
invariant-loop-node l = NeverRises l.successors l.levels l.node
