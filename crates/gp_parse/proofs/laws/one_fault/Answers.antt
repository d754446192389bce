use Rattle.gp_parse.proofs.NestingLaws.{has_one_fault}
use Rattle.gp_parse.proofs.laws.one_fault.Goals as goal

pub returns : goal.returns
returns c = has_one_fault
