use Rattle.std.proofs.Common.{arith}
use Rattle.hg_graph.proofs.Updates.{set-updated}
use Rattle.hg_graph.proofs.indexes.push_child.Goals as goal

pub returns-clause-ok : goal.returns-clause-ok
returns-clause-ok c =
    set-updated c.args.indexes.now.items c.args.parent.0 _ c.index_mut.result.now c.push_child.new.self (omega arith) c.index_mut.ensures.value c.in_ok-push_child.ensures.ok
