use Rattle.guppy_call.proofs.GraphModes.{made_unmigrated}
use Rattle.guppy_call.proofs.migrate.migrate_text.Goals as goal

pub returns-in-Err-clause-due : goal.returns-in-Err-clause-due
returns-in-Err-clause-due c answer due = made_unmigrated c.args.text.now c.in-Err.error c.in-Err.ensures.refused answer due
