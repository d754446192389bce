use Rattle.std.proofs.Common.{◌≡◌, ◌<◌, ℕ, length}
use Rattle.hg_ops.specs.Op.{is_effect}
use Rattle.hg_graph.specs.Graph.{op_at}
use Rattle.walks.specs.Counts.{is_marked}
use Rattle.hg_valid.proofs.effects.own_effects.Given as goal

-- a mark for each node so far
abbrev pub invariant-loop-n : goal.invariant-loop-n
invariant-loop-n l = record {
  count : length l.marks.items ≡ l.n;
  each : (k : ℕ) → k < l.n → is_marked l.marks.items k ≡ is_effect (op_at l.graph k);
}
