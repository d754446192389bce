-- The numbers of statuses.
use Rattle.std.specs.Prelude.{ℕ}
use Rattle.guppy_call.specs.declared.status.Status.{Status}
use Rattle.guppy_call.specs.declared.status.Status.TheVariants.{Done, Refused, Words, ReadFault, WriteFault, Memory, Stopped}

-- the number that the process ends with
abbrev pub code_of : Status → ℕ
code_of Done = 0
code_of Refused = 1
code_of Words = 2
code_of ReadFault = 3
code_of WriteFault = 4
code_of Memory = 5
code_of Stopped = 6
