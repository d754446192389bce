use Rattle.std.proofs.Common.{arith}
use Rattle.hg_graph.proofs.Updates.{set-updated}
use Rattle.hg_graph.proofs.indexes.push_before.Goals as goal

pub returns-clause-ok : goal.returns-clause-ok
returns-clause-ok c =
    set-updated c.args.indexes.now.items c.args.to.0 _ c.index_mut.result.now c.push_before.new.self (omega arith) c.index_mut.ensures.value c.in_ok-push_before.ensures.ok
