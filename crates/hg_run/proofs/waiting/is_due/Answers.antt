use Rattle.std.proofs.Common.{◌∙◌}
use Rattle.hg_graph.specs.Run.{outs_at}
use Rattle.hg_run.proofs.Arrivals.{due_tells}
use Rattle.hg_run.proofs.waiting.is_due.Goals as goal

pub returns : goal.returns
returns c =
    c.awaits_none.ensures
    ∙ due_tells c.args.graph.now (outs_at c.args.fired.now) c.args.node.0 c.args.value c.args.order c.requires.value c.requires.order
