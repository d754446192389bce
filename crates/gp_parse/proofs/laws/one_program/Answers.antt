use Rattle.gp_parse.proofs.NestingLaws.{has_one_program}
use Rattle.gp_parse.proofs.laws.one_program.Goals as goal

pub returns : goal.returns
returns c = has_one_program
