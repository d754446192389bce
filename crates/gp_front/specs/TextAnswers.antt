-- What a text is by the definitions of the phases, as plain data: the text of a program, or one with a first fault.
use Rattle.std.specs.Prelude.{◌≡◌, ℕ, List, Some, None, Result, Ok, Err}
use Rattle.gp_lex.specs.declared.line.LogicalLine.{LogicalLine}
use Rattle.gp_lex.specs.Lines.{HasLines, HasFault}
use Rattle.gp_tree.specs.Program.{ProgramItem}
use Rattle.gp_parse.specs.declared.parse_fault.ParseFault.{ParseFault}
use Rattle.gp_parse.specs.Nesting.{Line}
use Rattle.gp_parse.specs.Nested.{IsProgramOf}
use Rattle.gp_parse.specs.Programs.{HaveForms, IsProgram}
use Rattle.gp_scope.specs.declared.fault.ScopeFault.{ScopeFault}
use Rattle.gp_scope.specs.FirstFault.{IsFirstFault}
use Rattle.gp_scope.specs.Known.{known_of}
use Rattle.gp_typing.specs.declared.fault.TypeFault.{TypeFault}
use Rattle.gp_typing.specs.Functions.{program_typing}
use Rattle.gp_typing.specs.Typed.{TypedFunction}
use Rattle.gp_front.specs.declared.fault.TextFault.{TextFault}
use Rattle.gp_front.specs.declared.fault.TextFault.TheVariants as fault

-- the lines nest to this program, or they have this fault
abbrev pub Nest : List LogicalLine → Result (List ProgramItem) ParseFault → Type 0
Nest lines (Ok items) = (ys : List Line) × HaveForms lines ys × IsProgramOf ys items
Nest lines (Err f) = IsProgram lines (Err f)

-- the text has lines, and they do
pub record Reads (text : List ℕ) (answer : Result (List ProgramItem) ParseFault) : Type 0 where
  pub lines : List LogicalLine
  pub lexed : HasLines text lines
  pub nested : Nest lines answer

-- The text is one of this program, whose names have no fault, and whose functions have these types.
pub record IsProgramText (text : List ℕ) (items : List ProgramItem) (functions : List TypedFunction) : Type 0 where
  pub read : Reads text (Ok items)
  pub named : IsFirstFault items None
  pub typed : program_typing (known_of items) items ≡ Ok functions

-- The text is one of a program whose names have this first fault.
pub record HasNameFault (text : List ℕ) (f : ScopeFault) : Type 0 where
  pub items : List ProgramItem
  pub read : Reads text (Ok items)
  pub named : IsFirstFault items (Some f)

-- The text is one of a program whose names have no fault, and whose types have this first one.
pub record HasFaultOfTypes (text : List ℕ) (f : TypeFault) : Type 0 where
  pub items : List ProgramItem
  pub read : Reads text (Ok items)
  pub named : IsFirstFault items None
  pub typed : program_typing (known_of items) items ≡ Err f

-- The text has this first fault: that of the first phase that finds one.
abbrev pub IsFaultyText : List ℕ → TextFault → Type 0
IsFaultyText text (fault.Lex f) = HasFault text f
IsFaultyText text (fault.Parse f) = Reads text (Err f)
IsFaultyText text (fault.Scope f) = HasNameFault text f
IsFaultyText text (fault.Type f) = HasFaultOfTypes text f
