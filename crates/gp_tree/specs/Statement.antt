-- Statements and blocks as plain data, each statement with its line, and the data that those in memory are.
use Rattle.std.specs.Prelude.{ℕ, List, [], ◌∷◌, map, Option}
use Rattle.gp_base.specs.declared.name.LineNo.{LineNo}
use Rattle.gp_tree.specs.declared.place.Targets.{Targets}
use Rattle.gp_tree.specs.declared.stmt.Stmt.{Stmt, fold-Stmt}
use Rattle.gp_tree.specs.declared.stmt.Stmt.TheOpen.{Stmt-F}
use Rattle.gp_tree.specs.Expression.{Expression, expression, maybe_expression}
use Rattle.gp_tree.specs.TypeExpression.{TypeExpression, type_expression}

mutual
  pub data Statement : Type 0 where
    assign : LineNo → Targets → Expression → Statement
    annotated : LineNo → List ℕ → TypeExpression → Expression → Statement
    evaluate : LineNo → Expression → Statement
    return_value : LineNo → Option Expression → Statement
    -- the test, the block where it is true, and the other block
    if_else : LineNo → Expression → Statements → Statements → Statement
    while_loop : LineNo → Expression → Statements → Statement
    -- the name that counts, the count, and the body
    for_loop : LineNo → List ℕ → Expression → Statements → Statement
    break_loop : LineNo → Statement
    continue_loop : LineNo → Statement
    pass : LineNo → Statement

  -- a block
  pub data Statements : Type 0 where
    no_statements : Statements
    with_statement : Statement → Statements → Statements

abbrev pub statements_of : List Statement → Statements
statements_of [] = no_statements
statements_of (s ∷ ss) = with_statement s (statements_of ss)

-- one level, with each statement inside already seen as plain data
abbrev pub statement_step : Stmt-F Statement → Statement
statement_step (Stmt-F.Assign line targets value) = assign line targets (expression value)
statement_step (Stmt-F.Annotated line name ty value) = annotated line name (type_expression ty) (expression value)
statement_step (Stmt-F.Evaluate line value) = evaluate line (expression value)
statement_step (Stmt-F.Return line value) = return_value line (maybe_expression value)
statement_step (Stmt-F.If line test body other) = if_else line (expression test) (statements_of body.items) (statements_of other.items)
statement_step (Stmt-F.While line test body) = while_loop line (expression test) (statements_of body.items)
statement_step (Stmt-F.For line name count body) = for_loop line name (expression count) (statements_of body.items)
statement_step (Stmt-F.Break line) = break_loop line
statement_step (Stmt-F.Continue line) = continue_loop line
statement_step (Stmt-F.Pass line) = pass line

-- a statement in memory as plain data
abbrev pub statement : Stmt → Statement
statement = fold-Stmt Statement statement_step

-- a block in memory as plain data
abbrev pub statements : List Stmt → Statements
statements ss = statements_of (map statement ss)
