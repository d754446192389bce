use Rattle.std.proofs.Common.{◌≡◌, ◌-◌}
use Rattle.hg_graph.specs.Run.{pulled, outs_at}
use Rattle.hg_run.proofs.Scans.{prepended}
use Rattle.hg_run.proofs.picking.inputs_of.Given as goal

-- the values so far, and those that are left
abbrev pub invariant-loop-index : goal.invariant-loop-index
invariant-loop-index l =
    pulled l.graph.links (outs_at l.fired) l.node.0 0 l.count ≡ prepended l.ins (pulled l.graph.links (outs_at l.fired) l.node.0 l.index (l.count - l.index))
