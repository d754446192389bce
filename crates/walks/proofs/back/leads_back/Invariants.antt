use Rattle.std.proofs.Common.{◌≡◌, ◌-◌, ◌<◌, ◌≤◌, ℕ, length, slice_index, true}
use Rattle.walks.specs.Walks.{Leads}
use Rattle.walks.specs.Counts.{is_marked}
use Rattle.walks.specs.code.Reach.{IsReach}
use Rattle.walks.proofs.back.leads_back.Given as goal

-- the start and the first nodes have been followed
abbrev pub invariant-loop-k : goal.invariant-loop-k
invariant-loop-k l = record {
  reach : IsReach l.successors l.start l.reach.reached.items l.reach.nodes.items;
  start_is : l.reach.start ≡ l.start;
  within : l.k ≤ length l.reach.nodes.items;
  begun : (b : ℕ) → Leads l.successors l.start b → is_marked l.reach.reached.items b ≡ true;
  done : (i : ℕ) → i < l.k → (b : ℕ) → Leads l.successors (slice_index l.reach.nodes.items i) b → is_marked l.reach.reached.items b ≡ true;
}

abbrev pub decreases-loop-k : goal.decreases-loop-k
decreases-loop-k l = length l.successors - l.k
