use Rattle.guppy_call.proofs.refusal.RefusalDisplay.fmt.Goals as goal

pub returns-in-Rule-clause-writes : goal.returns-in-Rule-clause-writes
returns-in-Rule-clause-writes g c plain ok = rw (c.in-Rule.is) (c.write-in-Rule.ensures.writes plain ok)
