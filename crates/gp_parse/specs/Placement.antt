-- Where statements stand in a program: jumps inside loops, blocks that are never empty, and lines.
use Rattle.std.specs.Prelude.{◌≡◌, ◌<◌, Bool, true, false, List, [], ◌∷◌, ◌++◌}
use Rattle.gp_base.specs.declared.name.LineNo.{LineNo}
use Rattle.gp_tree.specs.Program.{ProgramItem, function_item}
use Rattle.gp_tree.specs.Statement.{Statement, Statements, annotated, if_else, while_loop, for_loop, break_loop, continue_loop, no_statements, with_statement}

-- a block with a statement
abbrev pub IsSomeBlock : Statements → Type 0
IsSomeBlock no_statements = ⊥
IsSomeBlock (with_statement x xs) = Unit {0}

-- Each `break` and `continue` stands inside a loop, and no first branch of an `if` is empty. The truth value says
-- whether the statements themselves stand inside a loop.
abbrev mutual
  pub IsPlaced : Bool → Statement → Type 0
  IsPlaced loop (break_loop n) = loop ≡ true
  IsPlaced loop (continue_loop n) = loop ≡ true
  IsPlaced loop (if_else n test xs ys) = IsSomeBlock xs × ArePlaced loop xs × ArePlaced loop ys
  IsPlaced loop (while_loop n test xs) = ArePlaced true xs
  IsPlaced loop (for_loop n name count xs) = ArePlaced true xs
  IsPlaced loop _ = Unit {0}

  pub ArePlaced : Bool → Statements → Type 0
  ArePlaced loop no_statements = Unit {0}
  ArePlaced loop (with_statement x xs) = IsPlaced loop x × ArePlaced loop xs

-- the same of each function of a program
abbrev pub HasPlacedJumps : List ProgramItem → Type 0
HasPlacedJumps [] = Unit {0}
HasPlacedJumps (function_item f ∷ items) = ArePlaced false f.body × HasPlacedJumps items
HasPlacedJumps (_ ∷ items) = HasPlacedJumps items

-- the lines of annotated assignments, in text order
abbrev mutual
  pub annotated_lines_in : Statement → List LineNo
  annotated_lines_in (annotated n name ty value) = n ∷ []
  annotated_lines_in (if_else n test xs ys) = annotated_lines xs ++ annotated_lines ys
  annotated_lines_in (while_loop n test xs) = annotated_lines xs
  annotated_lines_in (for_loop n name count xs) = annotated_lines xs
  annotated_lines_in _ = []

  pub annotated_lines : Statements → List LineNo
  annotated_lines no_statements = []
  annotated_lines (with_statement x xs) = annotated_lines_in x ++ annotated_lines xs

abbrev pub program_annotated_lines : List ProgramItem → List LineNo
program_annotated_lines [] = []
program_annotated_lines (function_item f ∷ items) = annotated_lines f.body ++ program_annotated_lines items
program_annotated_lines (_ ∷ items) = program_annotated_lines items

-- each number is less than all behind it
abbrev pub AllBehind : LineNo → List LineNo → Type 0
AllBehind n [] = Unit {0}
AllBehind n (m ∷ ms) = (n.0 < m.0) × AllBehind n ms

abbrev pub AreRising : List LineNo → Type 0
AreRising [] = Unit {0}
AreRising (n ∷ ns) = AllBehind n ns × AreRising ns
