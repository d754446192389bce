-- What nesting makes of every list of lines: one program, or one first fault.
use Rattle.std.specs.Prelude.{◌≡◌, ◌⊎◌, List}
use Rattle.gp_tree.specs.Program.{ProgramItem}
use Rattle.gp_parse.specs.FirstFault.{Fault, FirstFault, within}
use Rattle.gp_parse.specs.Nesting.{Line, Nests}

-- Lines are the lines of at most one program with at most 50 levels.
abbrev pub HasOneProgram : Type 0
HasOneProgram = (lines : List Line) (a b : List ProgramItem) → Nests (within 50) lines a → Nests (within 50) lines b → a ≡ b

-- Lines have at most one first fault.
abbrev pub HasOneFault : Type 0
HasOneFault = (lines : List Line) (d e : Fault) → FirstFault 50 lines d → FirstFault 50 lines e → d ≡ e

-- Lines have a program or a first fault.
abbrev pub HasProgramOrFault : Type 0
HasProgramOrFault = (lines : List Line) → ((items : List ProgramItem) × Nests (within 50) lines items) ⊎ ((d : Fault) × FirstFault 50 lines d)

-- No lines have both.
abbrev pub NeverBoth : Type 0
NeverBoth = (lines : List Line) (items : List ProgramItem) (d : Fault) → Nests (within 50) lines items → FirstFault 50 lines d → ⊥
