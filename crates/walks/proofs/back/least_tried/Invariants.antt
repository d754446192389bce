use Rattle.std.proofs.Common.{ℕ, ◌<◌}
use Rattle.walks.specs.Walks.{Walk}
use Rattle.walks.proofs.back.least_tried.Given as goal

-- no walk leads back to one of the nodes so far
abbrev pub invariant-loop-node : goal.invariant-loop-node
invariant-loop-node l = (m : ℕ) → m < l.node → Walk l.successors m m → ⊥
