use Rattle.gp_parse.proofs.NestingLaws.{has_program_or_fault}
use Rattle.gp_parse.proofs.laws.program_or_fault.Goals as goal

pub returns : goal.returns
returns c = has_program_or_fault
