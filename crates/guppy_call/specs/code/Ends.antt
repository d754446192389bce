-- The statuses of runs.
use Rattle.gp_base.specs.declared.event.End.{End}
use Rattle.gp_base.specs.declared.event.End.TheVariants as end
use Rattle.guppy_call.specs.declared.status.Status.{Status}
use Rattle.guppy_call.specs.declared.status.Status.TheVariants as status

abbrev pub status_of_end : End → Status
status_of_end end.Returned = status.Done
status_of_end end.TurnsUsed = status.Stopped
status_of_end end.OutcomesUsed = status.Stopped
status_of_end end.DivisionByZero = status.Stopped
