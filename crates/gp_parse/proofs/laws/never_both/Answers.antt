use Rattle.gp_parse.proofs.NestingLaws.{never_both_holds}
use Rattle.gp_parse.proofs.laws.never_both.Goals as goal

pub returns : goal.returns
returns c = never_both_holds
