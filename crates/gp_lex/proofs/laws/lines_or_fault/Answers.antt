use Rattle.gp_lex.proofs.Lexed.{one_or_the_other}
use Rattle.gp_lex.proofs.laws.lines_or_fault.Goals as goal

pub returns : goal.returns
returns c = one_or_the_other
