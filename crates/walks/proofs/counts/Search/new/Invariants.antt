use Rattle.std.proofs.Common.{◌≡◌, ◌+◌, length, map, take}
use Rattle.walks.proofs.counts.Search.new.Given as goal

-- an entry for each node so far
abbrev pub invariant-loop-nodes : goal.invariant-loop-nodes
invariant-loop-nodes l = record {
  steps_are : l.steps.items ≡ map (λ nodes. length nodes + 2) (take l.nodes-index l.successors);
  counts_are : l.counts.items ≡ map (λ nodes. 0) (take l.nodes-index l.successors);
}
