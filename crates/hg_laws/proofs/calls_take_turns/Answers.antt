use Rattle.hg_laws.proofs.Turns.{calls_take_turns_lem}
use Rattle.hg_laws.proofs.calls_take_turns.Goals as goal

pub returns : goal.returns
returns c = calls_take_turns_lem
