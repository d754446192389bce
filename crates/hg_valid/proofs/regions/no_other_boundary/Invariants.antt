use Rattle.std.proofs.Common.{◌≡◌, ℕ, ◌<◌, ◌≤◌, false, Some, slice_get}
use Rattle.hg_graph.specs.Graph.{op_at, children}
use Rattle.hg_graph.specs.Valid.{is_boundary}
use Rattle.hg_valid.proofs.regions.no_other_boundary.Given as goal

abbrev pub invariant-loop-place : goal.invariant-loop-place
invariant-loop-place l = (k m : ℕ) → 2 ≤ k → k < l.place → slice_get (children l.graph l.node.0) k ≡ Some m → is_boundary (op_at l.graph m) ≡ false
