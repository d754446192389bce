-- The data that programs with types in memory are.
use Rattle.std.specs.Prelude.{List, [], ◌∷◌, map, option_map}
use Rattle.gp_types.specs.View.{ty_view}
use Rattle.gp_types.specs.Signature.{signature_view}
use Rattle.gp_tree.specs.TypeExpression.{type_expression}
use Rattle.gp_typing.specs.declared.typed.TypedExpr as expression
use Rattle.gp_typing.specs.declared.typed.TypedKind.TheOpen.{TypedExpr-F, TypedKind-F}
use Rattle.gp_typing.specs.declared.typed.TypedKind as kind
use Rattle.gp_typing.specs.declared.typed.TypedStmt as statement
use Rattle.gp_typing.specs.declared.typed.TypedStmtKind.TheOpen.{TypedStmt-F, TypedStmtKind-F, TypedBlock-F}
use Rattle.gp_typing.specs.declared.typed.TypedStmtKind as statement_kind
use Rattle.gp_typing.specs.declared.typed.TypedBlock as block
use Rattle.gp_typing.specs.declared.typed.TypedFunction as function
use Rattle.gp_typing.specs.Typed.{TypedExpression, of_type, TypedKind, TypedExpressions, no_expressions, with_expression, TypedStatement, behind, TypedStatementKind, TypedStatements, no_statements, with_statement, TypedBlock, TypedFunction}
use Rattle.gp_typing.specs.Typed as typed

abbrev pub expressions_of : List TypedExpression → TypedExpressions
expressions_of [] = no_expressions
expressions_of (e ∷ es) = with_expression e (expressions_of es)

-- one level, with the expressions inside already seen
abbrev pub kind_step : TypedKind-F TypedKind TypedExpression → TypedKind
kind_step (TypedKind-F.Int n) = typed.number n
kind_step (TypedKind-F.Bool b) = typed.boolean b
kind_step (TypedKind-F.Text t) = typed.text t
kind_step (TypedKind-F.Place p) = typed.place p
kind_step (TypedKind-F.Neg a) = typed.minus a.value
kind_step (TypedKind-F.Not a) = typed.negation a.value
kind_step (TypedKind-F.Binary op a b) = typed.binary op a.value b.value
kind_step (TypedKind-F.And a b) = typed.both a.value b.value
kind_step (TypedKind-F.Or a b) = typed.either a.value b.value
kind_step (TypedKind-F.Choice c a b) = typed.choice c.value a.value b.value
kind_step (TypedKind-F.Tuple es) = typed.tuple (expressions_of es.items)
kind_step (TypedKind-F.Call f es) = typed.call f (expressions_of es.items)

abbrev pub expression_step : TypedExpr-F TypedKind TypedExpression → TypedExpression
expression_step e = of_type (option_map ty_view e.ty) e.kind

-- an expression with its type in memory, as plain data
abbrev pub expression_view : expression.TypedExpr → TypedExpression
expression_view = expression.fold-TypedExpr TypedKind TypedExpression kind_step expression_step

abbrev pub kind_view : kind.TypedKind → TypedKind
kind_view = kind.fold-TypedKind TypedKind TypedExpression kind_step expression_step

abbrev pub expressions_view : List expression.TypedExpr → TypedExpressions
expressions_view es = expressions_of (map expression_view es)

abbrev pub statements_of : List TypedStatement → TypedStatements
statements_of [] = no_statements
statements_of (s ∷ ss) = with_statement s (statements_of ss)

abbrev pub statement_kind_step : TypedStmtKind-F TypedStatementKind TypedBlock TypedStatement → TypedStatementKind
statement_kind_step (TypedStmtKind-F.Assign line targets value) = typed.assign line targets (expression_view value)
statement_kind_step (TypedStmtKind-F.Annotated line name ty value) = typed.annotated line name (type_expression ty) (expression_view value)
statement_kind_step (TypedStmtKind-F.Evaluate line value) = typed.evaluate line (expression_view value)
statement_kind_step (TypedStmtKind-F.Return line value) = typed.return_value line (option_map expression_view value)
statement_kind_step (TypedStmtKind-F.If line test body other) = typed.if_else line (expression_view test) body other
statement_kind_step (TypedStmtKind-F.While line test body) = typed.while_loop line (expression_view test) body
statement_kind_step (TypedStmtKind-F.For line name count body) = typed.for_loop line name (expression_view count) body
statement_kind_step (TypedStmtKind-F.Break line) = typed.break_loop line
statement_kind_step (TypedStmtKind-F.Continue line) = typed.continue_loop line
statement_kind_step (TypedStmtKind-F.Pass line) = typed.pass line

abbrev pub statement_step : TypedStmt-F TypedStatementKind TypedBlock TypedStatement → TypedStatement
statement_step s = behind s.before s.kind

abbrev pub block_step : TypedBlock-F TypedStatementKind TypedBlock TypedStatement → TypedBlock
block_step b = typed.block (statements_of b.stmts.items) b.end_reached

abbrev pub statement_view : statement.TypedStmt → TypedStatement
statement_view = statement.fold-TypedStmt TypedStatementKind TypedBlock TypedStatement statement_kind_step block_step statement_step

abbrev pub statement_kind_view : statement_kind.TypedStmtKind → TypedStatementKind
statement_kind_view = statement_kind.fold-TypedStmtKind TypedStatementKind TypedBlock TypedStatement statement_kind_step block_step statement_step

abbrev pub block_view : block.TypedBlock → TypedBlock
block_view = block.fold-TypedBlock TypedStatementKind TypedBlock TypedStatement statement_kind_step block_step statement_step

abbrev pub statements_view : List statement.TypedStmt → TypedStatements
statements_view ss = statements_of (map statement_view ss)

abbrev pub function_view : function.TypedFunction → TypedFunction
function_view f = record { line = f.line; name = f.name; signature = signature_view f.signature; body = block_view f.body }
