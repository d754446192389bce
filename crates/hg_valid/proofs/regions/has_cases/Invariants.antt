use Rattle.std.proofs.Common.{◌≡◌, ℕ, ◌<◌, Some, slice_get}
use Rattle.hg_ops.specs.Op.{Types}
use Rattle.hg_graph.specs.Valid.{HasCase}
use Rattle.hg_valid.proofs.regions.has_cases.Given as goal

abbrev pub invariant-loop-place : goal.invariant-loop-place
invariant-loop-place l = (k : ℕ) (row : Types) → k < l.place → slice_get l.rows k ≡ Some row → HasCase l.graph l.node.0 k row l.ins l.outs
