use Rattle.std.proofs.Common.{◌≡◌, ◌+◌, ◌≤◌, ℕ, length, slice_index}
use Rattle.hg_valid.specs.code.Regions.{ApartBelow}
use Rattle.hg_valid.proofs.ordered.counts_differ.Given as goal

-- the regions so far have no two marked children of one count
abbrev pub invariant-loop-number : goal.invariant-loop-number
invariant-loop-number l = record {
  below : ApartBelow l.graph l.number l.marks l.counts;
  earlier : (i : ℕ) → slice_index l.seen.items i ≤ l.number;
  count : length l.seen.items ≡ length l.counts + 1;
}
