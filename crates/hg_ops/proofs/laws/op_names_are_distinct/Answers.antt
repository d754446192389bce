use Rattle.hg_ops.proofs.Names.{op_names_are_distinct_lem}
use Rattle.hg_ops.proofs.laws.op_names_are_distinct.Goals as goal

pub returns : goal.returns
returns c = op_names_are_distinct_lem
