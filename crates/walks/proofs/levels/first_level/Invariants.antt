use Rattle.walks.specs.code.Levels.{FallsBelow}
use Rattle.walks.proofs.levels.first_level.Given as goal

-- each link of the nodes so far leads to a lower level
abbrev pub invariant-loop-node : goal.invariant-loop-node
invariant-loop-node l = FallsBelow l.successors l.levels l.node
