use Rattle.hg_run.proofs.Lives.{live_some, live_none}
use Rattle.hg_run.proofs.qubits.is_live.Goals as goal

pub returns-in-Some : goal.returns-in-Some
returns-in-Some c = live_some c.args.machine.now.flags.items c.args.q c.in-Some.flag c.in-Some.ensures

pub returns-in-None : goal.returns-in-None
returns-in-None c = live_none c.args.machine.now.flags.items c.args.q c.in-None.ensures
