use Rattle.std.proofs.Common.{map, length, ap, ◌∙◌, arith}
use Rattle.std.specs.Prelude.{filter}
use Rattle.std.proofs.lemmas.List.{take_all}
use Rattle.hg_ops.specs.Op.{fires}
use Rattle.hg_graph.specs.Graph.{op_at, firing_children}
use Rattle.hg_graph.specs.View.{number_of}
use Rattle.hg_run.proofs.reads.firing_count.Goals as goal

pub returns : goal.returns
unfolding firing_children
returns c =
    c.loop-k.invariant.0
    ∙ ap (λ xs. length (filter (λ n. fires (op_at c.args.graph.now n)) xs)) (ap (map number_of) (take_all c.loop-k.k c.children_of-nodes.result.now (omega arith)) ∙ c.children_of-nodes.ensures)
