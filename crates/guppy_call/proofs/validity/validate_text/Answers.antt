use Rattle.guppy_call.proofs.ValidTexts.{made_refused}
use Rattle.guppy_call.proofs.validity.validate_text.Goals as goal

pub returns-in-Err-clause-due : goal.returns-in-Err-clause-due
returns-in-Err-clause-due c answer due = made_refused c.args.text.now c.in-Err.error c.in-Err.ensures.refused answer due
