-- What reading lines as a program answers.
use Rattle.std.specs.Prelude.{◌≡◌, List, map, Result, Ok, Err}
use Rattle.gp_base.specs.declared.name.LineNo.{LineNo}
use Rattle.gp_tree.specs.declared.program.Item.{Item}
use Rattle.gp_parse.specs.Placement.{HasPlacedJumps, program_annotated_lines, AreRising}
use Rattle.gp_tree.specs.Program.{ProgramItem, program_items}
use Rattle.gp_parse.specs.declared.parse_fault.ParseFault.{ParseFault}
use Rattle.gp_parse.specs.declared.parse_fault.ParseFault.TheVariants as fault
use Rattle.gp_parse.specs.Nesting.{Line, Nests}
use Rattle.gp_parse.specs.FirstFault.{Fault, nesting, too_deep, within, FirstFault}

abbrev pub number_of : Line → LineNo
number_of x = x.number

-- The lines are those of this program, with at most 50 levels, of no other, and without a fault.
pub record IsProgramOf (lines : List Line) (items : List ProgramItem) : Type 0 where
  pub nests : Nests (within 50) lines items
  pub only : (others : List ProgramItem) → Nests (within 50) lines others → others ≡ items
  pub faultless : (d : Fault) → FirstFault 50 lines d → ⊥
  -- each `break` and `continue` stands inside a loop of its function, and no first branch of an `if` is empty
  pub placed : HasPlacedJumps items
  -- where the lines' numbers rise, no two annotated assignments stand on one line
  pub rising : AreRising (map number_of lines) → AreRising (program_annotated_lines items)

-- The lines have this first fault, no other, and are no program's.
pub record IsFaultOf (lines : List Line) (d : Fault) : Type 0 where
  pub first : FirstFault 50 lines d
  pub only : (other : Fault) → FirstFault 50 lines other → other ≡ d
  pub no_program : (items : List ProgramItem) → Nests (within 50) lines items → ⊥

-- the program of the lines, or their first fault; there may be no memory
abbrev pub IsNested : List Line → Result (List Item) ParseFault → Type 0
IsNested lines (Ok items) = IsProgramOf lines (program_items items)
IsNested lines (Err (fault.Nesting n)) = IsFaultOf lines (nesting n)
IsNested lines (Err (fault.TooDeep n)) = IsFaultOf lines (too_deep n)
IsNested lines (Err fault.Memory) = Unit {0}
IsNested lines (Err (fault.TooBig n)) = ⊥
IsNested lines (Err (fault.NotALine n)) = ⊥
