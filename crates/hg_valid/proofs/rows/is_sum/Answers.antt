use Rattle.std.proofs.Common.{rules}
use Rattle.hg_ops.proofs.Same.{sum_decides}
use Rattle.hg_valid.proofs.rows.is_sum.Goals as goal

pub returns-in-Sum : goal.returns-in-Sum
returns-in-Sum c = search (rules, sum_decides c.is_same.result c.in-Sum.own c.args.rows.now c.is_same.ensures)
