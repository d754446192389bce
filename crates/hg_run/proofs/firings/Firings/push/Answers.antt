use Rattle.std.proofs.Common.{arith}
use Rattle.hg_run.proofs.Placing.{placed_more}
use Rattle.hg_run.proofs.firings.Firings.push.Goals as goal

pub invariant_of-result : goal.invariant_of-result
invariant_of-result c = placed_more c.self.inside.list.items c.push.new.self.items c.self.inside.places c.insert.new.self (record { node = c.args.node; outs = c.args.outs }) c.len-place.result (omega arith) c.in_ok-push.ensures.items c.in_ok-insert.ensures.updates c.self.invariant
