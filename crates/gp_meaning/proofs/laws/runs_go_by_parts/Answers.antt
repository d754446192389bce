use Rattle.gp_meaning.proofs.RunLaws.{by_parts}
use Rattle.gp_meaning.proofs.laws.runs_go_by_parts.Goals as goal

pub returns : goal.returns
returns c = by_parts
