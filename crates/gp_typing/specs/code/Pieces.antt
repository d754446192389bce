-- The definition of statements in pieces: tests and counts, what a compound statement does with its blocks, and a block
-- that gets its statements one after another.
use Rattle.std.specs.Prelude.{ℕ, not, List, Some, Ok}
use Rattle.gp_base.specs.declared.name.LineNo.{LineNo}
use Rattle.gp_tree.specs.Expression.{Expression}
use Rattle.gp_tree.specs.Statement.{Statement, Statements}
use Rattle.gp_types.specs.Types.{Ty}
use Rattle.gp_types.specs.Same.{same_type}
use Rattle.gp_tree.specs.TypeExpression.{TypeExpression}
use Rattle.gp_typing.specs.declared.fault.TypeFault.TheVariants.{Mismatch, TooManyPlaces, Unreachable, LoopChangesType, BorrowedAssigned}
use Rattle.gp_typing.specs.Checks.{Checked, ◌>>=◌, check, found}
use Rattle.gp_locals.specs.Environment.{Environment, NameType, is_within, join_reached, put, usable}
use Rattle.gp_typing.specs.Expressions.{Value, is_bool, is_int}
use Rattle.gp_scope.specs.Known.{Known}
use Rattle.gp_typing.specs.Statements.{Frame, Ends, StatementTyping, BlockTyping, after, after_while, block_of, block_typing, comes_back, goes_on, line_of, one_of, statement_typing, typed_as}
use Rattle.gp_typing.specs.Typed as typed
use Rattle.gp_typing.specs.Typed.{TypedExpression, TypedStatements, no_statements, with_statement, behind}

-- a test: a truth value
abbrev pub tested : LineNo → Checked Value → Checked TypedExpression
tested line value = value >>= λ t. check (is_bool t.ty) (Mismatch line) >>= λ _. Ok t.tree

-- a count: a whole number
abbrev pub counted : LineNo → Checked Value → Checked TypedExpression
counted line value = value >>= λ n. check (is_int n.ty) (Mismatch line) >>= λ _. Ok n.tree

-- a name that takes a type, unless it is a borrowed parameter
abbrev pub named : Frame → Environment → LineNo → List ℕ → Ty → Checked Environment
named frame e line name ty = check (not (frame.is_borrowed name)) (BorrowedAssigned line) >>= λ _. Ok (put frame.names e name ty)

-- the written type of a line, which the value has
abbrev pub written : Known → LineNo → Ty → Checked (Unit {0})
written known line its = found (known.annotated_at line) (Mismatch line) >>= λ ty. check (same_type ty its) (Mismatch line)

-- a name that takes the type of the value, which is the written type of the line
abbrev pub put_written : Known → Frame → Environment → LineNo → List ℕ → Ty → Checked Environment
put_written known frame e line name its = written known line its >>= λ _. named frame e line name its

abbrev pub ended_annotated : Known → Frame → Environment → LineNo → List ℕ → TypeExpression → Checked Value → Checked StatementTyping
ended_annotated known frame e line name ty value =
    value
    >>= λ v. written known line v.ty
    >>= λ _. named frame e line name v.ty
    >>= λ next. typed_as (typed.annotated line name ty v.tree) (goes_on (Some next))

abbrev pub ended_if : LineNo → TypedExpression → BlockTyping → BlockTyping → Checked StatementTyping
ended_if line test body other = typed_as (typed.if_else line test (block_of body) (block_of other)) (one_of body.ends other.ends)

abbrev pub ended_while : LineNo → Expression → TypedExpression → Environment → BlockTyping → Checked StatementTyping
ended_while line written test e body =
    check (comes_back e body.ends) (LoopChangesType line)
    >>= λ _. typed_as (typed.while_loop line test (block_of body)) (goes_on (after_while written e body.ends.breaks))

abbrev pub ended_for : LineNo → List ℕ → TypedExpression → Environment → BlockTyping → Checked StatementTyping
ended_for line name count e body =
    check (comes_back e body.ends) (LoopChangesType line)
    >>= λ _. typed_as (typed.for_loop line name count (block_of body)) (goes_on (join_reached (Some e) body.ends.breaks))

-- ---- blocks

abbrev pub append_statements : TypedStatements → TypedStatements → TypedStatements
append_statements no_statements more = more
append_statements (with_statement s ss) more = with_statement s (append_statements ss more)

-- a block with the statements of another behind its own
abbrev pub joined_block : BlockTyping → BlockTyping → BlockTyping
joined_block b rest = record { trees = append_statements b.trees rest.trees; ends = after b.ends rest.ends }

-- a block with one more statement, behind these usable names
abbrev pub with_typed : BlockTyping → List NameType → StatementTyping → BlockTyping
with_typed b before s = record { trees = append_statements b.trees (with_statement (behind before s.kind) no_statements); ends = after b.ends s.ends }

-- one after another, where the types of the usable names at the second's end are within the limit
abbrev pub kept_within : LineNo → Ends → Ends → Checked Ends
kept_within line first second = check (is_within second.next) (TooManyPlaces line) >>= λ _. Ok (after first second)

-- a block with one more statement, where the types of the usable names behind it are within the limit
abbrev pub ended_next : LineNo → BlockTyping → List NameType → StatementTyping → Checked BlockTyping
ended_next line b before s = check (is_within s.ends.next) (TooManyPlaces line) >>= λ _. Ok (with_typed b before s)

-- a block with one more statement, which stands in this environment
abbrev pub with_last : Frame → BlockTyping → Environment → StatementTyping → BlockTyping
with_last frame b e s = with_typed b (usable frame.names e) s

-- a statement behind a block, where a path leads there
abbrev pub next_of : Known → Frame → BlockTyping → Statement → Checked BlockTyping
next_of known frame b s =
    found b.ends.next (Unreachable (line_of s))
    >>= λ e. statement_typing known frame e s
    >>= λ x. ended_next (line_of s) b (usable frame.names e) x

-- a block with these statements behind it
abbrev pub continued : Known → Frame → BlockTyping → Statements → Checked BlockTyping
continued known frame b ss = block_typing known frame b.ends.next ss >>= λ rest. Ok (joined_block b rest)
