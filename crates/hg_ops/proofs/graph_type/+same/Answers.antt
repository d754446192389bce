use Rattle.std.proofs.Common.{rules}
use Rattle.hg_ops.specs.TypeView.{type_view}
use Rattle.hg_ops.proofs.Same.{sum_decides, function_decides, function_differs, items_alike}
use Rattle.hg_ops.proofs.graph_type.+same.Goals as goal

pub GraphType::is_same-returns-in-Sum-Sum : goal.GraphType::is_same-returns-in-Sum-Sum
GraphType::is_same-returns-in-Sum-Sum t c =
    search (rules, sum_decides c.is_same.result c.in-Sum-Sum.rows c.in-Sum-Sum.others c.is_same.ensures)

pub same_types-returns-then-not-is_same : goal.same_types-returns-then-not-is_same
same_types-returns-then-not-is_same t c =
    search (rules, items_alike type_view c.args.ones.now c.args.others.now c.loop-k.k c.index-ones-k.result c.index-others-k.result)

pub GraphType::is_same-returns-then-is_same : goal.GraphType::is_same-returns-then-is_same
GraphType::is_same-returns-then-is_same t c =
    search (rules, function_decides c.is_same-in-Function-Function.result c.is_same-then-is_same.result c.in-Function-Function.ins c.in-Function-Function.outs c.in-Function-Function.other_ins c.in-Function-Function.other_outs c.is_same-in-Function-Function.ensures c.if-is_same.true c.is_same-then-is_same.ensures)

pub GraphType::is_same-returns-else-is_same : goal.GraphType::is_same-returns-else-is_same
GraphType::is_same-returns-else-is_same t c =
    search (rules, function_differs c.is_same-in-Function-Function.result c.in-Function-Function.ins c.in-Function-Function.outs c.in-Function-Function.other_ins c.in-Function-Function.other_outs c.is_same-in-Function-Function.ensures c.if-is_same.false)
