use Rattle.std.proofs.Common.{ℕ, ◌+◌, ◌≤◌, length, slice_index, sum}
use Rattle.walks.specs.Walks.{row}
use Rattle.walks.specs.code.Search.{IsSearch}
use Rattle.walks.proofs.counts.Search.run.Given as goal

-- the root has been entered, and no step is added
abbrev pub invariant-loop-node : goal.invariant-loop-node
invariant-loop-node l = record {
  search : IsSearch l.successors l.marks l.self.steps.items l.self.path.items l.self.counts.items;
  falls : (n : ℕ) → slice_index l.self.steps.items n ≤ slice_index l.fn.self.steps.items n;
  entered : slice_index l.self.steps.items l.root ≤ length (row l.successors l.root) + 1;
}

abbrev pub decreases-loop-node : goal.decreases-loop-node
decreases-loop-node l = sum l.self.steps.items
