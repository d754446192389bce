use Rattle.std.proofs.Common.{◌≡◌, ◌⊎◌, ℕ, ◌<◌, ◌≤◌, slice_index}
use Rattle.walks.proofs.counts.greatest.Given as goal

-- the greatest so far
abbrev pub invariant-loop-node : goal.invariant-loop-node
invariant-loop-node l = record {
  each : (k : ℕ) → k < l.node-index → slice_index l.counts (slice_index l.nodes k) ≤ l.greatest;
  one : (l.greatest ≡ 0) ⊎ ((k : ℕ) × (k < l.node-index) × (slice_index l.counts (slice_index l.nodes k) ≡ l.greatest));
}
