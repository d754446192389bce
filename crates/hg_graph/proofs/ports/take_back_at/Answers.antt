use Rattle.std.proofs.Common.{arith}
use Rattle.hg_graph.proofs.Pushed.{taken_back, untouched}
use Rattle.hg_graph.proofs.ports.take_back_at.Goals as goal

pub returns-then-index-len : goal.returns-then-index-len
returns-then-index-len c = λ before k was.
    taken_back c.args.lists.now.items before c.args.index k c.index_mut.result.now c.take_back.new.self was (omega arith) c.index_mut.ensures.value c.take_back.ensures.last

pub returns-else-index-len : goal.returns-else-index-len
returns-else-index-len c = λ before k was. untouched c.args.lists.now.items before c.args.index k was (omega arith)
