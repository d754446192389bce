use Rattle.hg_valid.specs.code.Successors.{HasEdges}
use Rattle.hg_valid.proofs.successors.successors_of.Given as goal

-- the first links have been added
abbrev pub invariant-loop-k : goal.invariant-loop-k
invariant-loop-k l = HasEdges l.graph l.k l.lists.items
