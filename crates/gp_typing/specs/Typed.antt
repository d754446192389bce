-- Programs with their types, as plain data: of the shape of programs, each expression with its type, and each statement
-- with the usable names before it.
use Rattle.std.specs.Prelude.{ℕ, ℤ, Bool, List, Option}
use Rattle.gp_base.specs.declared.name.LineNo.{LineNo}
use Rattle.gp_tree.specs.declared.expr.BinOp.{BinOp}
use Rattle.gp_tree.specs.declared.place.Place.{Place}
use Rattle.gp_tree.specs.declared.place.Targets.{Targets}
use Rattle.gp_tree.specs.TypeExpression.{TypeExpression}
use Rattle.gp_types.specs.Types.{Ty}
use Rattle.gp_types.specs.Signature.{Signature}
use Rattle.gp_locals.specs.Environment.{NameType}

mutual
  -- an expression; it has no type where it is a tag, or a call that answers nothing
  pub data TypedExpression : Type 0 where
    of_type : Option Ty → TypedKind → TypedExpression

  pub data TypedKind : Type 0 where
    number : ℤ → TypedKind
    boolean : Bool → TypedKind
    text : List ℕ → TypedKind
    place : Place → TypedKind
    minus : TypedExpression → TypedKind
    negation : TypedExpression → TypedKind
    binary : BinOp → TypedExpression → TypedExpression → TypedKind
    both : TypedExpression → TypedExpression → TypedKind
    either : TypedExpression → TypedExpression → TypedKind
    choice : TypedExpression → TypedExpression → TypedExpression → TypedKind
    tuple : TypedExpressions → TypedKind
    call : List ℕ → TypedExpressions → TypedKind

  pub data TypedExpressions : Type 0 where
    no_expressions : TypedExpressions
    with_expression : TypedExpression → TypedExpressions → TypedExpressions

mutual
  -- a statement, behind the usable names before it in the order of their first appearance in the function
  pub data TypedStatement : Type 0 where
    behind : List NameType → TypedStatementKind → TypedStatement

  pub data TypedStatementKind : Type 0 where
    assign : LineNo → Targets → TypedExpression → TypedStatementKind
    annotated : LineNo → List ℕ → TypeExpression → TypedExpression → TypedStatementKind
    evaluate : LineNo → TypedExpression → TypedStatementKind
    return_value : LineNo → Option TypedExpression → TypedStatementKind
    if_else : LineNo → TypedExpression → TypedBlock → TypedBlock → TypedStatementKind
    while_loop : LineNo → TypedExpression → TypedBlock → TypedStatementKind
    for_loop : LineNo → List ℕ → TypedExpression → TypedBlock → TypedStatementKind
    break_loop : LineNo → TypedStatementKind
    continue_loop : LineNo → TypedStatementKind
    pass : LineNo → TypedStatementKind

  -- a block, and whether its end can be reached
  pub data TypedBlock : Type 0 where
    block : TypedStatements → (end_reached : Bool) → TypedBlock

  pub data TypedStatements : Type 0 where
    no_statements : TypedStatements
    with_statement : TypedStatement → TypedStatements → TypedStatements

pub record TypedFunction : Type 0 where
  pub line : LineNo
  pub name : List ℕ
  pub signature : Signature
  pub body : TypedBlock
