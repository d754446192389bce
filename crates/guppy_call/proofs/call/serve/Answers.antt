use Rattle.guppy_call.proofs.Delivered.{text-read}
use Rattle.guppy_call.proofs.call.serve.Goals as goal

pub returns-in-Ok-clause-served : goal.returns-in-Ok-clause-served
returns-in-Ok-clause-served g c =
    text-read _ _ _ _ _ _ _ _ _ _ _ c.limit_of.ensures c.file.ensures c.deref.ensures.value c.in-Ok.ensures.read c.answer.ensures.due
