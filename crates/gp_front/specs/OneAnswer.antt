-- Texts have one answer.
use Rattle.std.specs.Prelude.{◌≡◌, ◌≢◌, ◌⊎◌, ℕ, List, Ok, Err}
use Rattle.gp_base.specs.declared.name.LineNo.{LineNo}
use Rattle.gp_lex.specs.declared.fault.LexFault.TheVariants as lex
use Rattle.gp_tree.specs.Program.{ProgramItem, program_items}
use Rattle.gp_parse.specs.declared.parse_fault.ParseFault.TheVariants as parse
use Rattle.gp_scope.specs.declared.fault.ScopeFault.TheVariants as scope
use Rattle.gp_scope.specs.declared.scope.Scope.{Scope}
use Rattle.gp_scope.specs.ScopeView.{known_in}
use Rattle.gp_typing.specs.declared.fault.TypeFault.TheVariants as type
use Rattle.gp_typing.specs.Typed.{TypedFunction}
use Rattle.gp_typing.specs.TypedView.{typed_view}
use Rattle.gp_front.specs.declared.checked.CheckedText.{CheckedText}
use Rattle.gp_front.specs.declared.fault.TextFault.{TextFault}
use Rattle.gp_front.specs.declared.fault.TextFault.TheVariants as fault
use Rattle.gp_front.specs.Checked.{IsChecked}
use Rattle.gp_front.specs.TextAnswers.{IsProgramText, IsFaultyText}

-- the fault is one of the text, and not want of memory
abbrev pub IsOfText : TextFault → Type 0
IsOfText (fault.Lex f) = f ≢ lex.Memory
IsOfText (fault.Parse f) = f ≢ parse.Memory
IsOfText (fault.Scope f) = f ≢ scope.Memory
IsOfText (fault.Type f) = f ≢ type.Memory

-- two scopes say the same of each name and each line, and have as many functions
pub record SayTheSame (s t : Scope) : Type 0 where
  pub imports : (name : List ℕ) → (known_in s).is_imported name ≡ (known_in t).is_imported name
  pub structs : (name : List ℕ) → (known_in s).struct_of name ≡ (known_in t).struct_of name
  pub signatures : (name : List ℕ) → (known_in s).signature_of name ≡ (known_in t).signature_of name
  pub annotated : (line : LineNo) → (known_in s).annotated_at line ≡ (known_in t).annotated_at line
  pub functions : s.functions ≡ t.functions

-- The text is one of a program, which is what is answered unless memory runs out.
pub record HasProgram (text : List ℕ) : Type 0 where
  pub items : List ProgramItem
  pub functions : List TypedFunction
  pub is : IsProgramText text items functions
  pub answered : (a : CheckedText) → IsChecked text (Ok a) → (program_items a.program ≡ items) × (typed_view a.typed ≡ functions)
  pub faultless : (f : TextFault) → IsOfText f → IsChecked text (Err f) → ⊥

-- The text has a first fault, which is what is answered unless memory runs out.
pub record HasFirstFault (text : List ℕ) : Type 0 where
  pub first : TextFault
  pub of_text : IsOfText first
  pub is : IsFaultyText text first
  pub answered : (f : TextFault) → IsOfText f → IsChecked text (Err f) → f ≡ first
  pub no_program : (a : CheckedText) → IsChecked text (Ok a) → ⊥

-- A text has at most one program with its scope and its types, or at most one first fault, and never both; and it has one
-- of them.
pub record TextsHaveOneAnswer : Type 0 where
  pub one_program : (text : List ℕ) (a b : CheckedText) → IsChecked text (Ok a) → IsChecked text (Ok b)
      → (program_items a.program ≡ program_items b.program) × (typed_view a.typed ≡ typed_view b.typed) × SayTheSame a.scope b.scope
  pub one_fault : (text : List ℕ) (f g : TextFault) → IsOfText f → IsOfText g → IsChecked text (Err f) → IsChecked text (Err g) → f ≡ g
  pub never_both : (text : List ℕ) (a : CheckedText) (f : TextFault) → IsOfText f → IsChecked text (Ok a) → IsChecked text (Err f) → ⊥
  pub always_one : (text : List ℕ) → HasProgram text ⊎ HasFirstFault text
