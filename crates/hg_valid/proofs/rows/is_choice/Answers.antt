use Rattle.std.proofs.Common.{◌∷◌, [], rules}
use Rattle.hg_ops.proofs.Same.{sum_decides}
use Rattle.hg_valid.proofs.rows.is_choice.Goals as goal

pub returns-in-Sum : goal.returns-in-Sum
returns-in-Sum c = search (rules, sum_decides c.has_two_rows.result c.in-Sum.rows (c.args.first.now ∷ c.args.second.now ∷ []) c.has_two_rows.ensures)
