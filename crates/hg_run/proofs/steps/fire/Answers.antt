use Rattle.hg_run.proofs.Parts.{if_ok}
use Rattle.hg_run.proofs.steps.fire.Goals as goal

pub returns-in-Call : goal.returns-in-Call
returns-in-Call c = rw c.in-Call.is (c.call.ensures c.in-Call.ins c.in-Call.outs)

pub returns-in-LoadConstant : goal.returns-in-LoadConstant
returns-in-LoadConstant c = rw c.in-LoadConstant.is (if_ok c.load.result _ _ c.load.ensures (λ how h. h c.args.ins c.args.machine.now))

pub returns-in-CallIndirect : goal.returns-in-CallIndirect
returns-in-CallIndirect c = rw c.in-CallIndirect.is (c.call_value.ensures c.args.node.0)

pub returns-in-LoadFunction : goal.returns-in-LoadFunction
returns-in-LoadFunction c = rw c.in-LoadFunction.is (if_ok c.load_function.result _ _ c.load_function.ensures (λ how h. h c.in-LoadFunction.ins c.in-LoadFunction.outs c.args.ins c.args.machine.now))
