use Rattle.hg_laws.proofs.Places.{closed_runs_hold_none_lem}
use Rattle.hg_laws.proofs.closed_runs_hold_none.Goals as goal

pub returns : goal.returns
returns c = closed_runs_hold_none_lem
