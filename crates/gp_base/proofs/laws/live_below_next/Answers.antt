use Rattle.gp_base.proofs.Live.{is_live-lt}
use Rattle.gp_base.proofs.laws.live_below_next.Goals as goal

pub returns : goal.returns
returns c = λ w. is_live-lt w.flags
