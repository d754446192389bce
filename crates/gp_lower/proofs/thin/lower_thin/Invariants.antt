use Rattle.std.proofs.Common.{◌≡◌, ◌+◌, take}
use Rattle.gp_lower.specs.code.Growing.{grown}
use Rattle.gp_lower.proofs.thin.lower_thin.Given as goal

-- the graph of the lines so far, whose last node has the qubit
abbrev pub invariant-loop-line : goal.invariant-loop-line
invariant-loop-line l = (l.graph ≡ grown (take l.line-index l.line-items)) × (l.last.0 ≡ 4 + l.line-index)
