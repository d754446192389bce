use Rattle.std.proofs.Common.{sym, subst}
use Rattle.guppy_call.specs.Call.{Delivers}
use Rattle.guppy_call.proofs.Delivered.{sent-refusal}
use Rattle.guppy_call.proofs.GraphModes.{due_run, refused_run}
use Rattle.guppy_call.proofs.run.run_text.Goals as goal

pub returns-in-Ok-clause-due : goal.returns-in-Ok-clause-due
returns-in-Ok-clause-due g c answer due =
    subst (Delivers _) (sym (due_run _ c.args.text.now _ c.in-Ok.ensures.valid answer due)) c.run_graph.ensures.answer

pub returns-in-Err-Refused-clause-due : goal.returns-in-Err-Refused-clause-due
returns-in-Err-Refused-clause-due g c answer due =
    let refuses = rw c.in-Err-Refused.field-0-is at c.in-Err-Refused.ensures.refused in
    sent-refusal _ _ _ _ c.in-Err-Refused.refusal answer (refused_run _ c.args.text.now _ refuses.0 answer due) c.refuse.ensures.sent
