use Rattle.std.proofs.Common.{rules, ◌≡◌, ◌<◌, ◌+◌, ◌∙◌, ap, arith, sym, Err, Some, None}
use Rattle.gp_tree.specs.Expression.{expression}
use Rattle.gp_tree.specs.Statement.{statement, statements}
use Rattle.gp_tree.specs.Statement as stmt
use Rattle.gp_tree.specs.TypeExpression.{type_expression}
use Rattle.gp_types.specs.Types as types
use Rattle.gp_typing.specs.declared.fault.TypeFault.TheVariants.{Unreachable}
use Rattle.gp_typing.specs.Checks.{◌>>=◌}
use Rattle.gp_typing.specs.code.Compound.{if_in, while_in, for_in, next_in}
use Rattle.gp_typing.specs.code.Pieces.{tested, counted, named, ended_annotated, ended_if, ended_while, ended_for, ended_next}
use Rattle.gp_typing.specs.code.StatementView.{block_view, statement_view, frame_view, known_for, value_in, statement_in, block_in}
use Rattle.gp_typing.specs.View.{expression_view}
use Rattle.gp_typing.proofs.StatementSizes.{block_steps, statement_steps, item-smaller, if-smaller, while-smaller, for-smaller}
use Rattle.gp_typing.proofs.StatementSteps.{error_exit, memory_exit, last_call, at_err, as_assign, as_annotated, as_evaluate, as_if, as_while, as_for, if_err_body, if_err_other, if_ok, while_err_body, while_ok, for_err_name, for_err_body, for_ok, next_none, next_err, next_last, block_ends, block_err, block_more}
use Rattle.gp_typing.proofs.statements.+statements.Goals as goal

-- ---- a statement

pub check_statement-returns-in-Assign : goal.check_statement-returns-in-Assign
check_statement-returns-in-Assign t c =
    last_call statement_view c.check_assign.result (statement_in c.args.frame.now c.args.environment (statement c.args.stmt.now))
    (statement_in c.args.frame.now c.args.environment (stmt.assign c.in-Assign.line c.in-Assign.targets (expression c.in-Assign.value)))
    (as_assign c.args.frame.now c.args.environment c.args.stmt.now c.in-Assign.line c.in-Assign.targets c.in-Assign.value c.in-Assign.is) c.check_assign.ensures

pub check_statement-returns-in-Annotated : goal.check_statement-returns-in-Annotated
check_statement-returns-in-Annotated t c =
    last_call statement_view c.check_annotated.result (statement_in c.args.frame.now c.args.environment (statement c.args.stmt.now))
    (ended_annotated (known_for c.args.frame.now) (frame_view c.args.frame.now) c.args.environment c.in-Annotated.line c.in-Annotated.name (type_expression c.in-Annotated.written)
    (value_in c.args.frame.now c.args.environment c.in-Annotated.line (expression c.in-Annotated.value)))
    (as_annotated c.args.frame.now c.args.environment c.args.stmt.now c.in-Annotated.line c.in-Annotated.name c.in-Annotated.written c.in-Annotated.value c.in-Annotated.is) c.check_annotated.ensures

pub check_statement-returns-in-Evaluate : goal.check_statement-returns-in-Evaluate
check_statement-returns-in-Evaluate t c =
    last_call statement_view c.check_evaluate.result (statement_in c.args.frame.now c.args.environment (statement c.args.stmt.now))
    (statement_in c.args.frame.now c.args.environment (stmt.evaluate c.in-Evaluate.line (expression c.in-Evaluate.value)))
    (as_evaluate c.args.frame.now c.args.environment c.args.stmt.now c.in-Evaluate.line c.in-Evaluate.value c.in-Evaluate.is) c.check_evaluate.ensures

pub check_statement-returns-in-If : goal.check_statement-returns-in-If
check_statement-returns-in-If t c =
    last_call statement_view c.check_if.result (statement_in c.args.frame.now c.args.environment (statement c.args.stmt.now))
    (if_in c.args.frame.now c.args.environment c.in-If.line (expression c.in-If.test) (statements c.deref.result.now) (statements c.deref-in-If.result.now))
    (as_if c.args.frame.now c.args.environment c.args.stmt.now c.in-If.line c.in-If.test c.in-If.body c.in-If.other c.in-If.is c.deref.result.now c.deref-in-If.result.now c.deref.ensures.value c.deref-in-If.ensures.value)
    c.check_if.ensures

pub check_statement-returns-in-While : goal.check_statement-returns-in-While
check_statement-returns-in-While t c =
    last_call statement_view c.check_while.result (statement_in c.args.frame.now c.args.environment (statement c.args.stmt.now))
    (while_in c.args.frame.now c.args.environment c.in-While.line (expression c.in-While.test) (statements c.deref-in-While.result.now))
    (as_while c.args.frame.now c.args.environment c.args.stmt.now c.in-While.line c.in-While.test c.in-While.body c.in-While.is c.deref-in-While.result.now c.deref-in-While.ensures.value)
    c.check_while.ensures

pub check_statement-returns-in-For : goal.check_statement-returns-in-For
check_statement-returns-in-For t c =
    last_call statement_view c.check_for.result (statement_in c.args.frame.now c.args.environment (statement c.args.stmt.now))
    (for_in c.args.frame.now c.args.environment c.in-For.line c.in-For.name (expression c.in-For.count) (statements c.deref-in-For.result.now))
    (as_for c.args.frame.now c.args.environment c.args.stmt.now c.in-For.line c.in-For.name c.in-For.count c.in-For.body c.in-For.is c.deref-in-For.result.now c.deref-in-For.ensures.value)
    c.check_for.ensures

-- ---- compound statements

pub check_if-returns-in_err-test : goal.check_if-returns-in_err-test
check_if-returns-in_err-test t c =
    error_exit statement_view c.from_residual.result (if_in c.args.frame.now c.args.environment c.args.line (expression c.args.test.now) (statements c.args.body.now) (statements c.args.other.now)) c.in_err-test.field-0.0 c.from_residual.ensures.1
    (λ n. at_err (tested c.args.line (value_in c.args.frame.now c.args.environment c.args.line (expression c.args.test.now)))
    (λ t. block_in c.args.frame.now (Some c.args.environment) (statements c.args.body.now) >>= λ x. block_in c.args.frame.now (Some c.args.environment) (statements c.args.other.now) >>= λ y. ended_if c.args.line t x y)
    c.in_err-test.field-0.0 (c.in_err-test.ensures n))

pub check_if-returns-in_err-inside : goal.check_if-returns-in_err-inside
check_if-returns-in_err-inside t c =
    memory_exit statement_view c.from_residual-in_err-inside.result (if_in c.args.frame.now c.args.environment c.args.line (expression c.args.test.now) (statements c.args.body.now) (statements c.args.other.now)) c.from_residual-in_err-inside.ensures.1

pub check_if-returns-in_err-body : goal.check_if-returns-in_err-body
check_if-returns-in_err-body t c =
    error_exit statement_view c.from_residual-in_err-body.result (if_in c.args.frame.now c.args.environment c.args.line (expression c.args.test.now) (statements c.args.body.now) (statements c.args.other.now)) c.in_err-body.field-0.0 c.from_residual-in_err-body.ensures.1
    (λ n. if_err_body c.args.frame.now c.args.environment c.args.line (expression c.args.test.now) (statements c.args.body.now) (statements c.args.other.now)
    (expression_view c.in_ok-test.test) c.in_ok-test.ensures c.in_ok-inside.inside c.in_ok-inside.ensures c.in_err-body.field-0.0 (c.in_err-body.ensures n))

pub check_if-returns-in_err-other : goal.check_if-returns-in_err-other
check_if-returns-in_err-other t c =
    error_exit statement_view c.from_residual-in_err-other.result (if_in c.args.frame.now c.args.environment c.args.line (expression c.args.test.now) (statements c.args.body.now) (statements c.args.other.now)) c.in_err-other.field-0.0 c.from_residual-in_err-other.ensures.1
    (λ n. if_err_other c.args.frame.now c.args.environment c.args.line (expression c.args.test.now) (statements c.args.body.now) (statements c.args.other.now)
    (expression_view c.in_ok-test.test) c.in_ok-test.ensures c.in_ok-inside.inside c.in_ok-inside.ensures (block_view c.in_ok-body.body) c.in_ok-body.ensures c.in_err-other.field-0.0 (c.in_err-other.ensures n))

pub check_if-returns : goal.check_if-returns
check_if-returns t c =
    last_call statement_view c.end_if.result (if_in c.args.frame.now c.args.environment c.args.line (expression c.args.test.now) (statements c.args.body.now) (statements c.args.other.now))
    (ended_if c.args.line (expression_view c.in_ok-test.test) (block_view c.in_ok-body.body) (block_view c.in_ok-other.other))
    (if_ok c.args.frame.now c.args.environment c.args.line (expression c.args.test.now) (statements c.args.body.now) (statements c.args.other.now)
    (expression_view c.in_ok-test.test) c.in_ok-test.ensures c.in_ok-inside.inside c.in_ok-inside.ensures (block_view c.in_ok-body.body) c.in_ok-body.ensures (block_view c.in_ok-other.other) c.in_ok-other.ensures)
    c.end_if.ensures

pub check_while-returns-in_err-typed : goal.check_while-returns-in_err-typed
check_while-returns-in_err-typed t c =
    error_exit statement_view c.from_residual.result (while_in c.args.frame.now c.args.environment c.args.line (expression c.args.test.now) (statements c.args.body.now)) c.in_err-typed.field-0.0 c.from_residual.ensures.1
    (λ n. at_err (tested c.args.line (value_in c.args.frame.now c.args.environment c.args.line (expression c.args.test.now)))
    (λ t. block_in c.args.frame.now (Some c.args.environment) (statements c.args.body.now) >>= λ b. ended_while c.args.line (expression c.args.test.now) t c.args.environment b)
    c.in_err-typed.field-0.0 (c.in_err-typed.ensures n))

pub check_while-returns-in_err-inside : goal.check_while-returns-in_err-inside
check_while-returns-in_err-inside t c =
    memory_exit statement_view c.from_residual-in_err-inside.result (while_in c.args.frame.now c.args.environment c.args.line (expression c.args.test.now) (statements c.args.body.now)) c.from_residual-in_err-inside.ensures.1

pub check_while-returns-in_err-body : goal.check_while-returns-in_err-body
check_while-returns-in_err-body t c =
    error_exit statement_view c.from_residual-in_err-body.result (while_in c.args.frame.now c.args.environment c.args.line (expression c.args.test.now) (statements c.args.body.now)) c.in_err-body.field-0.0 c.from_residual-in_err-body.ensures.1
    (λ n. while_err_body c.args.frame.now c.args.environment c.args.line (expression c.args.test.now) (statements c.args.body.now)
    (expression_view c.in_ok-typed.typed) c.in_ok-typed.ensures c.in_ok-inside.inside c.in_ok-inside.ensures c.in_err-body.field-0.0 (c.in_err-body.ensures n))

pub check_while-returns : goal.check_while-returns
check_while-returns t c =
    last_call statement_view c.end_while.result (while_in c.args.frame.now c.args.environment c.args.line (expression c.args.test.now) (statements c.args.body.now))
    (ended_while c.args.line (expression c.args.test.now) (expression_view c.in_ok-typed.typed) c.args.environment (block_view c.in_ok-body.body))
    (while_ok c.args.frame.now c.args.environment c.args.line (expression c.args.test.now) (statements c.args.body.now)
    (expression_view c.in_ok-typed.typed) c.in_ok-typed.ensures c.in_ok-inside.inside c.in_ok-inside.ensures (block_view c.in_ok-body.body) c.in_ok-body.ensures)
    c.end_while.ensures

pub check_for-returns-in_err-count : goal.check_for-returns-in_err-count
check_for-returns-in_err-count t c =
    error_exit statement_view c.from_residual.result (for_in c.args.frame.now c.args.environment c.args.line c.args.name.now (expression c.args.count.now) (statements c.args.body.now)) c.in_err-count.field-0.0 c.from_residual.ensures.1
    (λ n. at_err (counted c.args.line (value_in c.args.frame.now c.args.environment c.args.line (expression c.args.count.now)))
    (λ n. named (frame_view c.args.frame.now) c.args.environment c.args.line c.args.name.now types.Int >>= λ i. block_in c.args.frame.now (Some i) (statements c.args.body.now) >>= λ b. ended_for c.args.line c.args.name.now n c.args.environment b)
    c.in_err-count.field-0.0 (c.in_err-count.ensures n))

pub check_for-returns-in_err-inside : goal.check_for-returns-in_err-inside
check_for-returns-in_err-inside t c =
    error_exit statement_view c.from_residual-in_err-inside.result (for_in c.args.frame.now c.args.environment c.args.line c.args.name.now (expression c.args.count.now) (statements c.args.body.now)) c.in_err-inside.field-0.0 c.from_residual-in_err-inside.ensures.1
    (λ n. for_err_name c.args.frame.now c.args.environment c.args.line c.args.name.now (expression c.args.count.now) (statements c.args.body.now)
    (expression_view c.in_ok-count.count) c.in_ok-count.ensures c.in_err-inside.field-0.0 (c.in_err-inside.ensures n))

pub check_for-returns-in_err-body : goal.check_for-returns-in_err-body
check_for-returns-in_err-body t c =
    error_exit statement_view c.from_residual-in_err-body.result (for_in c.args.frame.now c.args.environment c.args.line c.args.name.now (expression c.args.count.now) (statements c.args.body.now)) c.in_err-body.field-0.0 c.from_residual-in_err-body.ensures.1
    (λ n. for_err_body c.args.frame.now c.args.environment c.args.line c.args.name.now (expression c.args.count.now) (statements c.args.body.now)
    (expression_view c.in_ok-count.count) c.in_ok-count.ensures c.in_ok-inside.inside c.in_ok-inside.ensures c.in_err-body.field-0.0 (c.in_err-body.ensures n))

pub check_for-returns : goal.check_for-returns
check_for-returns t c =
    last_call statement_view c.end_for.result (for_in c.args.frame.now c.args.environment c.args.line c.args.name.now (expression c.args.count.now) (statements c.args.body.now))
    (ended_for c.args.line c.args.name.now (expression_view c.in_ok-count.count) c.args.environment (block_view c.in_ok-body.body))
    (for_ok c.args.frame.now c.args.environment c.args.line c.args.name.now (expression c.args.count.now) (statements c.args.body.now)
    (expression_view c.in_ok-count.count) c.in_ok-count.ensures c.in_ok-inside.inside c.in_ok-inside.ensures (block_view c.in_ok-body.body) c.in_ok-body.ensures)
    c.end_for.ensures

-- ---- a statement behind a block

pub check_next-returns-in_default : goal.check_next-returns-in_default
check_next-returns-in_default t c =
    let none : c.args.block.ends.next ≡ None = search rules in
    λ n. next_none c.args.frame.now (block_view c.args.block) (statement c.args.stmt.now) none ∙ ap (λ line. Err (Unreachable line)) (sym c.line_of-line.ensures)

pub check_next-returns-in_err-before : goal.check_next-returns-in_err-before
check_next-returns-in_err-before t c =
    memory_exit block_view c.from_residual.result (next_in c.args.frame.now (block_view c.args.block) (statement c.args.stmt.now)) c.from_residual.ensures.1

pub check_next-returns-in_err-statement : goal.check_next-returns-in_err-statement
check_next-returns-in_err-statement t c =
    error_exit block_view c.from_residual-in_err-statement.result (next_in c.args.frame.now (block_view c.args.block) (statement c.args.stmt.now)) c.in_err-statement.field-0.0 c.from_residual-in_err-statement.ensures.1
    (λ n. next_err c.args.frame.now (block_view c.args.block) (statement c.args.stmt.now) c.in-Some.environment c.in-Some.is c.in_err-statement.field-0.0
    (ap (λ e. statement_in c.args.frame.now e (statement c.args.stmt.now)) (sym c.in_ok-before.ensures.unchanged) ∙ c.in_err-statement.ensures n))

pub check_next-returns : goal.check_next-returns
check_next-returns t c =
    last_call block_view c.add_statement.result (next_in c.args.frame.now (block_view c.args.block) (statement c.args.stmt.now))
    (ended_next c.line_of-line.result (block_view c.args.block) c.in_ok-before.before (statement_view c.in_ok-statement.statement))
    (next_last c.args.frame.now (block_view c.args.block) (statement c.args.stmt.now) c.in-Some.environment c.in-Some.is (statement_view c.in_ok-statement.statement)
    (ap (λ e. statement_in c.args.frame.now e (statement c.args.stmt.now)) (sym c.in_ok-before.ensures.unchanged) ∙ c.in_ok-statement.ensures)
    c.line_of-line.result c.line_of-line.ensures c.in_ok-before.before c.in_ok-before.ensures.listed)
    c.add_statement.ensures

-- ---- the loop over a block

pub check_block-loop-stmt-preserved : goal.check_block-loop-stmt-preserved
check_block-loop-stmt-preserved t c =
    block_more c.args.frame.now c.args.block.now (block_view c.loop-stmt.typed) (block_in c.args.frame.now c.args.start (statements c.args.block.now)) c.loop-stmt.stmt-index c.loop-stmt.invariant
    c.stmt-item.result c.loop-stmt-test.true c.stmt-item.is (block_view c.in_ok-typed.typed) c.in_ok-typed.ensures

pub check_block-returns-in_err-typed : goal.check_block-returns-in_err-typed
check_block-returns-in_err-typed t c =
    error_exit block_view c.from_residual.result (block_in c.args.frame.now c.args.start (statements c.args.block.now)) c.in_err-typed.field-0.0 c.from_residual.ensures.1
    (λ n. block_err c.args.frame.now c.args.block.now (block_view c.loop-stmt.typed) (block_in c.args.frame.now c.args.start (statements c.args.block.now)) c.loop-stmt.stmt-index c.loop-stmt.invariant
    c.stmt-item.result c.loop-stmt-test.true c.stmt-item.is c.in_err-typed.field-0.0 (c.in_err-typed.ensures n))

pub check_block-returns : goal.check_block-returns
check_block-returns t c =
    block_ends c.args.frame.now c.args.block.now (block_view c.loop-stmt.typed) (block_in c.args.frame.now c.args.start (statements c.args.block.now)) c.loop-stmt.stmt-index c.loop-stmt.invariant c.loop-stmt-test.false

-- ---- each call goes down into a part

pub check_block-check_next-requires : goal.check_block-check_next-requires
check_block-check_next-requires t c = (
  let less : statement_steps c.stmt-item.result + 1 < block_steps c.args.block.now = item-smaller c.args.block.now c.loop-stmt.stmt-index c.stmt-item.result c.loop-stmt-test.true c.stmt-item.is in omega arith,
  tt,
)

pub check_statement-check_if-requires : goal.check_statement-check_if-requires
check_statement-check_if-requires t c = (
  let less : block_steps c.deref.result.now + block_steps c.deref-in-If.result.now + 1 < statement_steps c.args.stmt.now =
      if-smaller c.args.stmt.now c.in-If.line c.in-If.test c.in-If.body c.in-If.other c.in-If.is c.deref.result.now c.deref-in-If.result.now c.deref.ensures.value c.deref-in-If.ensures.value in omega arith,
  tt,
)

pub check_statement-check_while-requires : goal.check_statement-check_while-requires
check_statement-check_while-requires t c = (
  let less : block_steps c.deref-in-While.result.now + 1 < statement_steps c.args.stmt.now =
      while-smaller c.args.stmt.now c.in-While.line c.in-While.test c.in-While.body c.in-While.is c.deref-in-While.result.now c.deref-in-While.ensures.value in omega arith,
  tt,
)

pub check_statement-check_for-requires : goal.check_statement-check_for-requires
check_statement-check_for-requires t c = (
  let less : block_steps c.deref-in-For.result.now + 1 < statement_steps c.args.stmt.now =
      for-smaller c.args.stmt.now c.in-For.line c.in-For.name c.in-For.count c.in-For.body c.in-For.is c.deref-in-For.result.now c.deref-in-For.ensures.value in omega arith,
  tt,
)
