-- Steps of the reading of lines, by the calls that take them.
use Rattle.std.specs.Prelude.{◌≡◌, ℕ, Bool, true, false, List, [], ◌∷◌, map, Option, Some, None, Result, Ok, Err, if◌then◌else◌}
use Rattle.gp_base.specs.declared.name.LineNo.{LineNo}
use Rattle.gp_tree.specs.Form.{Form, MaybeForm, no_form, some_form}
use Rattle.gp_tree.specs.Statement.{Statement}
use Rattle.gp_tree.specs.declared.struct_decl.StructDecl.{StructDecl}
use Rattle.gp_parse.specs.declared.position.Position.{Position}
use Rattle.gp_parse.specs.declared.position.Position.TheVariants as p
use Rattle.gp_parse.specs.Nesting.{Line}
use Rattle.gp_parse.specs.FirstFault.{Fault, nesting, too_deep}
use Rattle.gp_parse.specs.code.NestingMachine.{Opening, Frame, Blocks, simple_of, put, closed}

-- what is wanted at line n
abbrev pub required : {A : Type 0} → LineNo → Option A → Result A Fault
required n (Some x) = Ok x
required n None = Err (nesting n)

abbrev pub simple_or_fault : Bool → LineNo → Form → Result Statement Fault
simple_or_fault loop n form = required n (simple_of loop n form)

abbrev pub with_some : {A : Type 0} → Result A Fault → Result (Option A) Fault
with_some (Ok x) = Ok (Some x)
with_some (Err d) = Err d

-- the statement behind the colon of a header, if there is one
abbrev pub statement_behind : Bool → LineNo → MaybeForm → Result (Option Statement) Fault
statement_behind loop n no_form = Ok None
statement_behind loop n (some_form form) = with_some (simple_or_fault loop n form)

abbrev pub level_or_fault : LineNo → ℕ → Bool → Result ℕ Fault
level_or_fault n level true = Ok level
level_or_fault n level false = Err (too_deep n)

-- the blocks behind a header, by the statement behind its colon
abbrev pub begun : Opening → Option Statement → Frame → List Frame → Blocks
begun o None x xs = record { wants = Some o; frames = x ∷ xs }
begun o (Some y) x xs = record { wants = None; frames = put o (y ∷ []) x ∷ xs }

abbrev pub maybe_statement : {A : Type 0} → (A → Statement) → Option A → Option Statement
maybe_statement view None = None
maybe_statement view (Some x) = Some (view x)

-- the frame that was found, and the frames that are left, are those
abbrev pub IsPlaced : {A : Type 0} → (A → Frame) → Option A → List A → List Frame → Type 0
IsPlaced view None left frames = frames ≡ []
IsPlaced view (Some x) left frames = frames ≡ view x ∷ map view left

-- the same where the block's level is allowed
abbrev pub begun_or_fault : (ℕ → Bool) → Opening → LineNo → Option Statement → Frame → List Frame → Result Blocks Fault
begun_or_fault fits o n behind x xs = if fits o.level then Ok (begun o behind x xs) else Err (too_deep n)

abbrev pub line : LineNo → ℕ → Form → Line
line n i form = record { number = n; indent = i; form = form }

abbrev pub line_number : ℕ → LineNo
line_number n = record { 0 = n }

abbrev pub at_class : ℕ → StructDecl → Position
at_class i s = p.InClass i s

abbrev pub maybe_list : {A : Type 0} → (A → List Statement) → Option A → Option (List Statement)
maybe_list view None = None
maybe_list view (Some x) = Some (view x)

-- all statements of the outermost block, if there is one
abbrev pub all_closed : List Frame → Option (List Statement)
all_closed [] = None
all_closed (x ∷ xs) = Some (closed x xs)
