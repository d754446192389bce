use Rattle.std.proofs.Common.{ap}
use Rattle.hg_ops.specs.OpView.{op_view}
use Rattle.hg_run.proofs.Callees.{has_both, has_not}
use Rattle.hg_run.proofs.functions.has_types.Goals as goal

pub returns-then-is_same : goal.returns-then-is_same
returns-then-is_same c = has_both _ _ _ _ c.args.ins.now c.args.outs.now (ap op_view c.in-FuncDefn.is) _ _ c.is_same.ensures c.is_same-then-is_same.ensures c.if-is_same.true

pub returns-else-is_same : goal.returns-else-is_same
returns-else-is_same c = has_not _ _ _ _ c.args.ins.now c.args.outs.now (ap op_view c.in-FuncDefn.is) _ c.is_same.ensures c.if-is_same.false
