use Rattle.std.proofs.Common.{◌-◌, ◌∙◌, sym, ap, arith}
use Rattle.hg_graph.specs.Valid.{name_of}
use Rattle.hg_run.proofs.Callees.{from_named, from_unnamed, from_first}
use Rattle.hg_run.proofs.functions.functions_of.Goals as goal

pub loop-n-preserved-in-Some : goal.loop-n-preserved-in-Some
loop-n-preserved-in-Some c =
    from_named c.args.graph.now (c.loop-n.n - 1) c.loop-n.n (omega arith) c.loop-n.invariant.0 c.loop-n.numbers c.loop-n.invariant.1
    c.in-Some.name.now c.insert.new.self (ap name_of (sym c.op.ensures) ∙ sym c.in-Some.ensures) c.in_ok-insert.ensures.updates

pub loop-n-preserved : goal.loop-n-preserved
loop-n-preserved c =
    from_unnamed c.args.graph.now (c.loop-n.n - 1) c.loop-n.n (omega arith) c.loop-n.invariant.0 c.loop-n.numbers c.loop-n.invariant.1
    (ap name_of (sym c.op.ensures) ∙ sym c.in_default.ensures)

pub returns : goal.returns
returns c = from_first c.args.graph.now c.loop-n.n c.loop-n.numbers (omega arith) c.loop-n.invariant.1
