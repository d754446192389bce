use Rattle.std.proofs.Common.{arith}
use Rattle.hg_graph.specs.Run.{outs_at}
use Rattle.hg_run.proofs.Elsewhere.{beside_less, beside_none}
use Rattle.hg_run.proofs.due.refresh_all.Goals as goal

pub loop-k-preserved : goal.loop-k-preserved
loop-k-preserved c = record {
  ready =
      beside_less c.args.graph.now c.args.container.0 (outs_at c.args.fired.now) c.args.nodes.now c.loop-k.k (record { 0 = 0 }) c.loop-k.dues.ready c.refresh.new.dues.ready
      (omega arith) c.loop-k.invariant.ready c.refresh.ensures.ready;
  seen = c.refresh.ensures.seen;
}

pub returns : goal.returns
returns c = record {
  ready = beside_none c.args.graph.now c.args.container.0 (outs_at c.args.fired.now) c.args.nodes.now c.loop-k.k c.loop-k.dues.ready (omega arith) c.loop-k.invariant.ready;
  seen = c.loop-k.invariant.seen;
}
