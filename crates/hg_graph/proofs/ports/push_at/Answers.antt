use Rattle.std.proofs.Common.{sym, arith}
use Rattle.hg_graph.proofs.Pushed.{set-pushed_at, pushed_at-past}
use Rattle.hg_graph.proofs.ports.push_at.Goals as goal

pub returns-in_ok-push-clause-ok : goal.returns-in_ok-push-clause-ok
returns-in_ok-push-clause-ok c =
    set-pushed_at c.args.lists.now.items c.args.index c.args.number c.index_mut.result.now c.push.new.self (omega arith) c.index_mut.ensures.value c.in_ok-push.ensures.ok

pub returns-else-index-len-clause-ok : goal.returns-else-index-len-clause-ok
returns-else-index-len-clause-ok c = sym (pushed_at-past c.args.index c.args.number c.args.lists.now.items (omega arith))
