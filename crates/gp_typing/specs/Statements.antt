-- The types of statements: the usable names at their ends, and the first fault.
use Rattle.std.specs.Prelude.{ℕ, Bool, true, false, ◌&&◌, not, if◌then◌else◌, List, [], ◌∷◌, Option, Some, None, is_some, Ok, Err}
use Rattle.gp_base.specs.declared.name.LineNo.{LineNo}
use Rattle.gp_tree.specs.declared.place.Place.{Place}
use Rattle.gp_tree.specs.declared.place.Targets.{Targets}
use Rattle.gp_tree.specs.declared.place.Targets.TheVariants as targets
use Rattle.gp_tree.specs.Expression as expr
use Rattle.gp_tree.specs.Expression.{Expression}
use Rattle.gp_tree.specs.Statement as stmt
use Rattle.gp_tree.specs.Statement.{Statement, Statements}
use Rattle.gp_types.specs.Types as types
use Rattle.gp_types.specs.Types.{Ty, Tys}
use Rattle.gp_types.specs.Same.{same_type}
use Rattle.gp_typing.specs.declared.fault.TypeFault.TheVariants.{Mismatch, WrongCount, TooManyPlaces, Unreachable, LoopChangesType, BorrowedAssigned}
use Rattle.gp_typing.specs.Checks.{Checked, ◌>>=◌, check, found}
use Rattle.gp_locals.specs.Environment.{Names, Environment, put, join_reached, keeps_reached, is_within, usable}
use Rattle.gp_scope.specs.Known.{Known}
use Rattle.gp_typing.specs.Expressions.{valued, typing, place_type, is_int, is_bool}
use Rattle.gp_typing.specs.Typed as typed
use Rattle.gp_typing.specs.Typed.{TypedStatements, TypedStatementKind, TypedBlock, behind}

-- what the whole function fixes: its names, the type of its result, and which names are borrowed parameters
pub record Frame : Type 0 where
  pub names : Names
  pub result : Option Ty
  pub is_borrowed : List ℕ → Bool

-- the environments at a statement's end, at its breaks and at its continues, where paths lead there
pub record Ends : Type 0 where
  pub next : Option Environment
  pub breaks : Option Environment
  pub continues : Option Environment

pub record StatementTyping : Type 0 where
  pub kind : TypedStatementKind
  pub ends : Ends

pub record BlockTyping : Type 0 where
  pub trees : TypedStatements
  pub ends : Ends

abbrev pub goes_on : Option Environment → Ends
goes_on next = record { next = next; breaks = None; continues = None }

abbrev pub stops : Ends
stops = goes_on None

-- one statement or block after another, and one or another
abbrev pub after : Ends → Ends → Ends
after first second = record {
  next = second.next;
  breaks = join_reached first.breaks second.breaks;
  continues = join_reached first.continues second.continues;
}

abbrev pub one_of : Ends → Ends → Ends
one_of first second = record {
  next = join_reached first.next second.next;
  breaks = join_reached first.breaks second.breaks;
  continues = join_reached first.continues second.continues;
}

abbrev pub block_of : BlockTyping → TypedBlock
block_of b = typed.block b.trees (is_some b.ends.next)

-- ---- assignments

-- a whole name takes the type of the value, unless it is a borrowed parameter; a field keeps its type
abbrev pub assigned_at : Known → Frame → Environment → LineNo → List (List ℕ) → Place → Ty → Checked Environment
assigned_at known frame e line [] place ty =
    check (not (frame.is_borrowed place.name)) (BorrowedAssigned line) >>= λ _. Ok (put frame.names e place.name ty)
assigned_at known frame e line (field ∷ fields) place ty =
    place_type known frame.names e line place >>= λ its. check (same_type its ty) (Mismatch line) >>= λ _. Ok e

abbrev pub assigned_place : Known → Frame → Environment → LineNo → Place → Ty → Checked Environment
assigned_place known frame e line place ty = assigned_at known frame e line place.fields place ty

-- the targets of a pattern take the parts of the tuple one after the other
abbrev pub assigned_places : Known → Frame → Environment → LineNo → List Place → Tys → Checked Environment
assigned_places known frame e line [] types.none = Ok e
assigned_places known frame e line (place ∷ places) (types.more ty tys) =
    assigned_place known frame e line place ty >>= λ next. assigned_places known frame next line places tys
assigned_places known frame e line _ _ = Err (WrongCount line)

-- a pattern has as many targets as there are parts
abbrev pub are_as_many : List Place → Tys → Bool
are_as_many [] types.none = true
are_as_many (place ∷ places) (types.more ty tys) = are_as_many places tys
are_as_many _ _ = false

abbrev pub tuple_parts : Ty → Option Tys
tuple_parts (types.Tuple items) = Some items
tuple_parts _ = None

abbrev pub assigned : Known → Frame → Environment → LineNo → Targets → Ty → Checked Environment
assigned known frame e line (targets.One place) ty = assigned_place known frame e line place ty
assigned known frame e line (targets.Pattern places) ty =
    found (tuple_parts ty) (Mismatch line)
    >>= λ tys. check (are_as_many places tys) (WrongCount line)
    >>= λ _. assigned_places known frame e line places tys

-- ---- results

-- whether a function with this result may return this value
abbrev pub is_result : Option Ty → Ty → Bool
is_result None ty = false
is_result (Some result) ty = same_type result ty

-- ---- loops

-- the test `True`, which never ends a loop
abbrev pub is_true : Expression → Bool
is_true (expr.boolean true) = true
is_true _ = false

-- what is usable after a `while` loop: with the test `True` only a `break` leads there
abbrev pub after_while : Expression → Environment → Option Environment → Option Environment
after_while test e breaks = if is_true test then breaks else join_reached (Some e) breaks

-- each name usable at the head has the same type where the body comes back to it
abbrev pub comes_back : Environment → Ends → Bool
comes_back e ends = keeps_reached e ends.next && keeps_reached e ends.continues

abbrev pub line_of : Statement → LineNo
line_of (stmt.assign line ts value) = line
line_of (stmt.annotated line name ty value) = line
line_of (stmt.evaluate line value) = line
line_of (stmt.return_value line value) = line
line_of (stmt.if_else line test body other) = line
line_of (stmt.while_loop line test body) = line
line_of (stmt.for_loop line name count body) = line
line_of (stmt.break_loop line) = line
line_of (stmt.continue_loop line) = line
line_of (stmt.pass line) = line

abbrev pub typed_as : TypedStatementKind → Ends → Checked StatementTyping
typed_as kind ends = Ok (record { kind = kind; ends = ends })

-- a statement with the usable names before it, and those that follow
abbrev pub first_of_block : Frame → Environment → StatementTyping → BlockTyping → BlockTyping
first_of_block frame e s b = record { trees = typed.with_statement (behind (usable frame.names e) s.kind) b.trees; ends = after s.ends b.ends }

abbrev mutual
  pub statement_typing : Known → Frame → Environment → Statement → Checked StatementTyping
  statement_typing known frame e (stmt.assign line ts value) =
      valued line (typing known frame.names e line value)
      >>= λ v. assigned known frame e line ts v.ty
      >>= λ next. typed_as (typed.assign line ts v.tree) (goes_on (Some next))
  statement_typing known frame e (stmt.annotated line name written value) =
      valued line (typing known frame.names e line value)
      >>= λ v. found (known.annotated_at line) (Mismatch line)
      >>= λ ty. check (same_type ty v.ty) (Mismatch line)
      >>= λ _. check (not (frame.is_borrowed name)) (BorrowedAssigned line)
      >>= λ _. typed_as (typed.annotated line name written v.tree) (goes_on (Some (put frame.names e name v.ty)))
  statement_typing known frame e (stmt.evaluate line value) =
      typing known frame.names e line value >>= λ v. typed_as (typed.evaluate line v) (goes_on (Some e))
  statement_typing known frame e (stmt.return_value line None) =
      check (not (is_some frame.result)) (Mismatch line) >>= λ _. typed_as (typed.return_value line None) stops
  statement_typing known frame e (stmt.return_value line (Some value)) =
      valued line (typing known frame.names e line value)
      >>= λ v. check (is_result frame.result v.ty) (Mismatch line)
      >>= λ _. typed_as (typed.return_value line (Some v.tree)) stops
  statement_typing known frame e (stmt.if_else line test body other) =
      valued line (typing known frame.names e line test)
      >>= λ t. check (is_bool t.ty) (Mismatch line)
      >>= λ _. block_typing known frame (Some e) body
      >>= λ x. block_typing known frame (Some e) other
      >>= λ y. typed_as (typed.if_else line t.tree (block_of x) (block_of y)) (one_of x.ends y.ends)
  statement_typing known frame e (stmt.while_loop line test body) =
      valued line (typing known frame.names e line test)
      >>= λ t. check (is_bool t.ty) (Mismatch line)
      >>= λ _. block_typing known frame (Some e) body
      >>= λ b. check (comes_back e b.ends) (LoopChangesType line)
      >>= λ _. typed_as (typed.while_loop line t.tree (block_of b)) (goes_on (after_while test e b.ends.breaks))
  statement_typing known frame e (stmt.for_loop line name count body) =
      valued line (typing known frame.names e line count)
      >>= λ n. check (is_int n.ty) (Mismatch line)
      >>= λ _. check (not (frame.is_borrowed name)) (BorrowedAssigned line)
      >>= λ _. block_typing known frame (Some (put frame.names e name types.Int)) body
      >>= λ b. check (comes_back e b.ends) (LoopChangesType line)
      >>= λ _. typed_as (typed.for_loop line name n.tree (block_of b)) (goes_on (join_reached (Some e) b.ends.breaks))
  statement_typing known frame e (stmt.break_loop line) =
      typed_as (typed.break_loop line) (record { next = None; breaks = Some e; continues = None })
  statement_typing known frame e (stmt.continue_loop line) =
      typed_as (typed.continue_loop line) (record { next = None; breaks = None; continues = Some e })
  statement_typing known frame e (stmt.pass line) = typed_as (typed.pass line) (goes_on (Some e))

  -- a block, from what is usable before it, where a path leads there
  pub block_typing : Known → Frame → Option Environment → Statements → Checked BlockTyping
  block_typing known frame e stmt.no_statements = Ok (record { trees = typed.no_statements; ends = goes_on e })
  block_typing known frame None (stmt.with_statement s ss) = Err (Unreachable (line_of s))
  block_typing known frame (Some e) (stmt.with_statement s ss) =
      statement_typing known frame e s
      >>= λ x. check (is_within x.ends.next) (TooManyPlaces (line_of s))
      >>= λ _. block_typing known frame x.ends.next ss
      >>= λ b. Ok (first_of_block frame e x b)
