use Rattle.hg_laws.proofs.Callees.{callees_are_typed_lem}
use Rattle.hg_laws.proofs.callees_are_typed.Goals as goal

pub returns : goal.returns
returns c = callees_are_typed_lem
