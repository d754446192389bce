use Rattle.std.proofs.Common.{◌≡◌, ℕ, ◌<◌, Some, slice_get}
use Rattle.hg_ops.specs.Op.{Types}
use Rattle.hg_graph.specs.Valid.{HasSuccessor}
use Rattle.hg_valid.proofs.blocks.has_successors.Given as goal

abbrev pub invariant-loop-place : goal.invariant-loop-place
invariant-loop-place l = (k : ℕ) (row : Types) → k < l.place → slice_get l.rows k ≡ Some row → HasSuccessor l.graph l.node.0 k row l.others
