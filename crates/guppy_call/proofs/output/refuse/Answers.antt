use Rattle.gp_base.proofs.Written.{appended-nil}
use Rattle.guppy_call.proofs.output.refuse.Goals as goal

pub returns-in-Err-clause-memory : goal.returns-in-Err-clause-memory
returns-in-Err-clause-memory g c none = appended-nil (g.S.Sink.bytes c.args.sink.now)
