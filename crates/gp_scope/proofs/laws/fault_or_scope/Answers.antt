use Rattle.gp_scope.proofs.NamesLaws.{names_have_one_answer}
use Rattle.gp_scope.proofs.laws.fault_or_scope.Goals as goal

pub returns : goal.returns
returns c = names_have_one_answer
