-- The laws of nesting, for programs with at most 50 levels.
use Rattle.std.proofs.Common.{◌≡◌, ◌⊎◌, inl, inr, List, Result, Ok, Err, refl}
use Rattle.gp_tree.specs.Program.{ProgramItem}
use Rattle.gp_parse.specs.FirstFault.{Fault, FirstFault, within}
use Rattle.gp_parse.specs.Nesting.{Nests}
use Rattle.gp_parse.specs.code.NestingCode.{line_number}
use Rattle.gp_parse.specs.NestingLaws as laws
use Rattle.gp_parse.specs.code.NestingMachine.{read, start}
use Rattle.gp_parse.proofs.NestingFaults as faults
use Rattle.gp_parse.proofs.NestingRuns.{nests_of_read}

pub has_one_program : laws.HasOneProgram
has_one_program lines a b h k = faults.one_program 50 refl lines a b h k

pub has_one_fault : laws.HasOneFault
has_one_fault lines d e h k = faults.one_fault 50 refl lines d e h k

pub never_both_holds : laws.NeverBoth
never_both_holds lines items d h k = faults.never_both 50 refl lines items d h k

pub has_program_or_fault : laws.HasProgramOrFault
has_program_or_fault lines = by (read (within 50) start (line_number 0) lines) refl
  where
    by : (r : Result (List ProgramItem) Fault) → read (within 50) start (line_number 0) lines ≡ r → ((items : List ProgramItem) × Nests (within 50) lines items) ⊎ ((d : Fault) × FirstFault 50 lines d)
    by (Ok items) e = inl (items, nests_of_read (within 50) refl lines (line_number 0) items e)
    by (Err d) e = inr (d, faults.fault_of_read 50 refl lines (line_number 0) d e)
