-- What reading logical lines as a program answers.
use Rattle.std.specs.Prelude.{◌≡◌, List, [], ◌∷◌, ◌++◌, Result, Ok, Err}
use Rattle.gp_base.specs.declared.name.LineNo.{LineNo}
use Rattle.gp_lex.specs.declared.line.LogicalLine.{LogicalLine}
use Rattle.gp_tree.specs.declared.program.Item.{Item}
use Rattle.gp_tree.specs.Form.{Form}
use Rattle.gp_tree.specs.Program.{program_items}
use Rattle.gp_parse.specs.declared.parse_fault.ParseFault.{ParseFault}
use Rattle.gp_parse.specs.declared.parse_fault.ParseFault.TheVariants as fault
use Rattle.gp_form.specs.Forms.{SpellsForm}
use Rattle.gp_form.specs.LineSize.{IsTooBig}
use Rattle.gp_parse.specs.Nesting.{Line}
use Rattle.gp_parse.specs.FirstFault.{nesting, too_deep}
use Rattle.gp_parse.specs.Nested.{IsProgramOf, IsFaultOf}

-- a logical line by its form
pub record IsFormLine (x : LogicalLine) (y : Line) : Type 0 where
  pub number : y.number ≡ x.number
  pub indent : y.indent ≡ x.indent
  pub small : IsTooBig x.tokens → ⊥
  pub spells : SpellsForm x.tokens y.form

-- logical lines by their forms
abbrev pub AreFormLines : List LogicalLine → List Line → Type 0
AreFormLines [] [] = Unit {0}
AreFormLines (x ∷ xs) (y ∷ ys) = IsFormLine x y × AreFormLines xs ys
AreFormLines [] (y ∷ ys) = ⊥
AreFormLines (x ∷ xs) [] = ⊥

-- The lines have these forms, and no others.
pub record HaveForms (xs : List LogicalLine) (ys : List Line) : Type 0 where
  pub forms : AreFormLines xs ys
  pub only : (zs : List Line) → AreFormLines xs zs → zs ≡ ys

-- The first line without a form is this one.
pub record IsRefused (xs : List LogicalLine) (x : LogicalLine) : Type 0 where
  pub front : List LogicalLine
  pub back : List LogicalLine
  pub parts : xs ≡ front ++ x ∷ back
  pub lines : List Line
  pub forms : AreFormLines front lines

pub record IsTooBigAt (xs : List LogicalLine) (n : LineNo) : Type 0 where
  pub line : LogicalLine
  pub first : IsRefused xs line
  pub big : IsTooBig line.tokens
  pub number : n ≡ line.number

pub record IsNoLineAt (xs : List LogicalLine) (n : LineNo) : Type 0 where
  pub line : LogicalLine
  pub first : IsRefused xs line
  pub small : IsTooBig line.tokens → ⊥
  pub spells : (form : Form) → SpellsForm line.tokens form → ⊥
  pub number : n ≡ line.number

-- The program of the lines; or the first line that has no form; or the first nesting fault of their forms.
abbrev pub IsProgram : List LogicalLine → Result (List Item) ParseFault → Type 0
IsProgram xs (Ok items) = (ys : List Line) × HaveForms xs ys × IsProgramOf ys (program_items items)
IsProgram xs (Err (fault.TooBig n)) = IsTooBigAt xs n
IsProgram xs (Err (fault.NotALine n)) = IsNoLineAt xs n
IsProgram xs (Err (fault.Nesting n)) = (ys : List Line) × HaveForms xs ys × IsFaultOf ys (nesting n)
IsProgram xs (Err (fault.TooDeep n)) = (ys : List Line) × HaveForms xs ys × IsFaultOf ys (too_deep n)
IsProgram xs (Err fault.Memory) = Unit {0}
