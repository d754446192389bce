-- The data that statements, blocks and their ends are in memory while they are checked.
use Rattle.std.specs.Prelude.{Option}
use Rattle.gp_base.specs.declared.name.LineNo.{LineNo}
use Rattle.gp_tree.specs.Expression.{Expression}
use Rattle.gp_tree.specs.Statement.{Statement, Statements}
use Rattle.gp_types.specs.Signature.{signature_view}
use Rattle.gp_typing.specs.declared.ends.Ends as declared_ends
use Rattle.gp_typing.specs.declared.ends.StatementTyping as declared_statement
use Rattle.gp_typing.specs.declared.ends.BlockTyping as declared_block
use Rattle.gp_typing.specs.declared.frame.Frame as declared_frame
use Rattle.gp_typing.specs.Checks.{Checked}
use Rattle.gp_locals.specs.Environment.{Environment}
use Rattle.gp_typing.specs.Expressions.{Value, valued, typing}
use Rattle.gp_typing.specs.Functions.{is_borrowed_among}
use Rattle.gp_scope.specs.Known.{Known}
use Rattle.gp_scope.specs.ScopeView.{known_in}
use Rattle.gp_typing.specs.Statements.{Frame, Ends, StatementTyping, BlockTyping, block_typing, statement_typing}
use Rattle.gp_typing.specs.Typed.{TypedExpression}
use Rattle.gp_typing.specs.View.{statement_kind_view, statements_view}

abbrev pub frame_view : declared_frame.Frame → Frame
frame_view f = record {
  names = f.names.now;
  result = (signature_view f.signature.now).result;
  is_borrowed = is_borrowed_among (signature_view f.signature.now).params;
}

abbrev pub known_for : declared_frame.Frame → Known
known_for f = known_in f.scope.now

abbrev pub ends_view : declared_ends.Ends → Ends
ends_view e = record { next = e.next; breaks = e.breaks; continues = e.continues }

abbrev pub statement_view : declared_statement.StatementTyping → StatementTyping
statement_view s = record { kind = statement_kind_view s.kind; ends = ends_view s.ends }

abbrev pub block_view : declared_block.BlockTyping → BlockTyping
block_view b = record { trees = statements_view b.stmts.items; ends = ends_view b.ends }

-- an expression of a statement of this line
abbrev pub expression_in : declared_frame.Frame → Environment → LineNo → Expression → Checked TypedExpression
expression_in frame e line x = typing (known_for frame) frame.names.now e line x

-- the same where a value is needed
abbrev pub value_in : declared_frame.Frame → Environment → LineNo → Expression → Checked Value
value_in frame e line x = valued line (expression_in frame e line x)

abbrev pub statement_in : declared_frame.Frame → Environment → Statement → Checked StatementTyping
statement_in frame e s = statement_typing (known_for frame) (frame_view frame) e s

abbrev pub block_in : declared_frame.Frame → Option Environment → Statements → Checked BlockTyping
block_in frame e ss = block_typing (known_for frame) (frame_view frame) e ss
