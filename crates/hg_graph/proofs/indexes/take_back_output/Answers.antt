use Rattle.std.proofs.Common.{arith}
use Rattle.hg_graph.proofs.Updates.{set_back-updated}
use Rattle.hg_graph.proofs.indexes.take_back_output.Goals as goal

pub returns : goal.returns
returns c = λ before k was.
    set_back-updated c.args.indexes.now.items before c.args.from.node.0 _ c.index_mut.result.now c.take_back_output.new.self was (omega arith) c.index_mut.ensures.value (λ x is. c.take_back_output.ensures x k is)
