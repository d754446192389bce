use Rattle.gp_lex.proofs.Numbers.{exceeds}
use Rattle.gp_lex.proofs.value.number_of.Goals as goal

pub returns-then-number-digit : goal.returns-then-number-digit
returns-then-number-digit c =
    exceeds c.loop-c.number c.loop-c.c-index c.c-item.result _ c.args.digits.now c.loop-c-test.true c.c-item.is c.saturating_sub-digit.ensures c.if-number-digit.true c.loop-c.invariant.1
