use Rattle.integers.proofs.Numbers.{negated_is}
use Rattle.integers.proofs.negated.Goals as goal

pub returns : goal.returns
returns c = negated_is c.args.number c.wrapping_neg.result c.ranges.number c.wrapping_neg.ensures
