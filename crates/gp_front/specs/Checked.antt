-- What the phases, one after another, say of a source text.
use Rattle.std.specs.Prelude.{◌≡◌, ℕ, List, Result, Ok, Err}
use Rattle.gp_lex.specs.declared.line.LogicalLine.{LogicalLine}
use Rattle.gp_lex.specs.Lines.{IsLexed}
use Rattle.gp_tree.specs.declared.program.Item.{Item}
use Rattle.gp_tree.specs.Program.{program_items}
use Rattle.gp_parse.specs.declared.parse_fault.ParseFault.{ParseFault}
use Rattle.gp_parse.specs.Programs.{IsProgram}
use Rattle.gp_scope.specs.declared.fault.ScopeFault.{ScopeFault}
use Rattle.gp_scope.specs.declared.scope.Scope.{Scope}
use Rattle.gp_scope.specs.Collected.{CollectAnswer}
use Rattle.gp_scope.specs.Known.{known_of}
use Rattle.gp_typing.specs.declared.fault.TypeFault.{TypeFault}
use Rattle.gp_typing.specs.declared.program.Typed.{Typed}
use Rattle.gp_typing.specs.Checks.{Answers}
use Rattle.gp_typing.specs.Functions.{program_typing}
use Rattle.gp_typing.specs.TypedView.{struct_in, typed_view}
use Rattle.gp_front.specs.declared.checked.CheckedText.{CheckedText}
use Rattle.gp_front.specs.declared.fault.TextFault.{TextFault}
use Rattle.gp_front.specs.declared.fault.TextFault.TheVariants as fault

-- The text has lines, and the nesting phase answers this of them.
pub record IsRead (text : List ℕ) (answer : Result (List Item) ParseFault) : Type 0 where
  pub lines : List LogicalLine
  pub lexed : IsLexed text (Ok lines)
  pub nested : IsProgram lines answer

-- The text has a program, and the names phase answers this of it.
pub record IsNamed (text : List ℕ) (answer : Result Scope ScopeFault) : Type 0 where
  pub program : List Item
  pub read : IsRead text (Ok program)
  pub collected : CollectAnswer (program_items program) answer

-- The text has this program, its names have this scope, and the typing phase answers this of the program.
pub record IsTyped (text : List ℕ) (program : List Item) (scope : Scope) (answer : Result Typed TypeFault) : Type 0 where
  pub read : IsRead text (Ok program)
  pub collected : CollectAnswer (program_items program) (Ok scope)
  pub typed : Answers typed_view answer (program_typing (known_of (program_items program)) (program_items program))

-- The text has a program and a scope, and this is the fault of the program's types.
pub record HasTypeFault (text : List ℕ) (f : TypeFault) : Type 0 where
  pub program : List Item
  pub scope : Scope
  pub typed : IsTyped text program scope (Err f)

-- The text is one of this program with this scope and these types.
pub record IsTextOf (text : List ℕ) (checked : CheckedText) : Type 0 where
  pub typed : IsTyped text checked.program checked.scope (Ok checked.typed)
  pub structs : (name : List ℕ) → struct_in checked.typed name ≡ (known_of (program_items checked.program)).struct_of name

-- What the phases answer of a text, or the fault of the first phase that has one. Each phase speaks only of texts that
-- all phases before it let pass, and each may say that memory ran out, in place of what it had to say.
abbrev pub IsChecked : List ℕ → Result CheckedText TextFault → Type 0
IsChecked text (Ok checked) = IsTextOf text checked
IsChecked text (Err (fault.Lex f)) = IsLexed text (Err f)
IsChecked text (Err (fault.Parse f)) = IsRead text (Err f)
IsChecked text (Err (fault.Scope f)) = IsNamed text (Err f)
IsChecked text (Err (fault.Type f)) = HasTypeFault text f
