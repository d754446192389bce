use Rattle.std.proofs.Common.{◌≡◌, ◌<◌, ℕ, slice_index, true}
use Rattle.walks.specs.Counts.{is_marked}
use Rattle.walks.specs.code.Reach.{IsReach, HasGrown}
use Rattle.walks.proofs.back.Reach.follow.Given as goal

-- the nodes so far have been reached
abbrev pub invariant-loop-next : goal.invariant-loop-next
invariant-loop-next l = record {
  reach : IsReach l.successors l.fn.self.start l.self.reached.items l.self.nodes.items;
  start_is : l.self.start ≡ l.fn.self.start;
  grown : HasGrown l.fn.self.reached.items l.self.reached.items l.fn.self.nodes.items l.self.nodes.items;
  so_far : (j : ℕ) → j < l.next-index → is_marked l.self.reached.items (slice_index l.next-items j) ≡ true;
}
