use Rattle.std.proofs.Common.{◌≡◌, ℕ, ◌<◌, [], slice_index}
use Rattle.walks.specs.code.Search.{IsSearch}
use Rattle.walks.proofs.counts.longest_chains.Given as goal

-- the nodes before the root have been left
abbrev pub invariant-loop-root : goal.invariant-loop-root
invariant-loop-root l = record {
  search : IsSearch l.successors l.marks l.search.steps.items l.search.path.items l.search.counts.items;
  ended : l.search.path.items ≡ [];
  done : (n : ℕ) → n < l.root → slice_index l.search.steps.items n ≡ 0;
}
