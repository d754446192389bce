use Rattle.std.proofs.Common.{◌≡◌, length}
use Rattle.hg_valid.specs.code.Regions.{IsSeen}
use Rattle.hg_valid.proofs.ordered.counts_differ_in.Given as goal

-- the children so far have been seen
abbrev pub invariant-loop-k : goal.invariant-loop-k
invariant-loop-k l = record {
  seen : IsSeen l.graph l.region.0 l.k l.marks l.counts l.seen.items;
  count : length l.seen.items ≡ length l.fn.seen.items;
}
