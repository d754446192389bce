use Rattle.std.proofs.Common.{◌≡◌, ℕ, ◌<◌, true, Some, slice_get}
use Rattle.hg_ops.specs.GraphType.{GraphType, is_linear}
use Rattle.hg_ops.specs.Op.{outs_of}
use Rattle.hg_graph.specs.Graph.{op_at, links_from}
use Rattle.hg_valid.proofs.port_links.linear_outputs_are_taken.Given as goal

abbrev pub invariant-loop-index : goal.invariant-loop-index
invariant-loop-index l =
    (p : ℕ) (type : GraphType) → p < l.index → slice_get (outs_of (op_at l.graph l.node.0)) p ≡ Some type → is_linear type ≡ true
    → links_from l.graph.links (record { node = l.node.0; index = p }) ≡ 1
