use Rattle.std.proofs.Common.{◌≡◌, ◌≤◌, ◌+◌, ◌++◌, map, drop}
use Rattle.gp_base.specs.Run.{ret, ◌>>=◌}
use Rattle.gp_tree.specs.Expression.{expression, expressions}
use Rattle.gp_tree.specs.Program.{program_items}
use Rattle.gp_tree.specs.Statement.{statement, statements}
use Rattle.gp_evaluator.specs.Evaluation.{state_of, values_run, block_run, while_run, for_run}
use Rattle.gp_evaluator.specs.View.{value_view}
use Rattle.gp_evaluator.proofs.Falls.{measure, largest, expression_size, row_size, statement_size, block_size}
use Rattle.gp_evaluator.proofs.evaluator.+evaluator.Given as goal

-- each call goes down into a part of the text, or takes a turn

abbrev pub decreases-evaluate_expr : goal.decreases-evaluate_expr
decreases-evaluate_expr l = measure (program_items l.frame.now.items.now) l.world.now.turns (expression_size (expression l.expr.now))

abbrev pub decreases-evaluate_value : goal.decreases-evaluate_value
decreases-evaluate_value l = measure (program_items l.frame.now.items.now) l.world.now.turns (expression_size (expression l.expr.now) + 1)

abbrev pub decreases-evaluate_truth : goal.decreases-evaluate_truth
decreases-evaluate_truth l = measure (program_items l.frame.now.items.now) l.world.now.turns (expression_size (expression l.expr.now) + 2)

abbrev pub decreases-evaluate_each : goal.decreases-evaluate_each
decreases-evaluate_each l = measure (program_items l.frame.now.items.now) l.world.now.turns (row_size (expressions l.exprs.now))

abbrev pub decreases-evaluate_call : goal.decreases-evaluate_call
decreases-evaluate_call l = measure (program_items l.frame.now.items.now) l.world.now.turns (row_size (expressions l.arguments.now) + 1)

abbrev pub decreases-call : goal.decreases-call
decreases-call l = measure (program_items l.frame.now.items.now) l.world.now.turns 0

abbrev pub decreases-run_function : goal.decreases-run_function
decreases-run_function l = measure (program_items l.items.now) l.world.now.turns (largest (program_items l.items.now) + 1)

abbrev pub decreases-execute : goal.decreases-execute
decreases-execute l = measure (program_items l.frame.now.items.now) l.world.now.turns (statement_size (statement l.stmt.now))

abbrev pub decreases-execute_block : goal.decreases-execute_block
decreases-execute_block l = measure (program_items l.frame.now.items.now) l.world.now.turns (block_size (statements l.block.now))

abbrev pub decreases-run_while : goal.decreases-run_while
decreases-run_while l = measure (program_items l.frame.now.items.now) l.world.now.turns (expression_size (expression l.test.now) + block_size (statements l.body.now) + 3)

abbrev pub decreases-run_for : goal.decreases-run_for
decreases-run_for l = measure (program_items l.frame.now.items.now) l.world.now.turns (block_size (statements l.body.now) + 1)

-- the values so far stand before those of the expressions that are left
abbrev pub invariant-evaluate_each-loop-i : goal.invariant-evaluate_each-loop-i
invariant-evaluate_each-loop-i l = record {
  run : values_run l.frame (expressions (drop l.first l.exprs)) (state_of l.fn.variables l.fn.world)
      ≡ (values_run l.frame (expressions (drop l.i l.exprs)) >>= λ vs. ret (map value_view l.values.items ++ vs)) (state_of l.variables l.world);
  fewer : l.world.turns ≤ l.fn.world.turns;
}

-- the statements that are left come to the run of the whole block
abbrev pub invariant-execute_block-loop-stmt : goal.invariant-execute_block-loop-stmt
invariant-execute_block-loop-stmt l = record {
  run : block_run l.frame (statements l.block) (state_of l.fn.variables l.fn.world) ≡ block_run l.frame (statements (drop l.stmt-index l.block)) (state_of l.variables l.world);
  fewer : l.world.turns ≤ l.fn.world.turns;
}

-- the loop at its head comes to the run of the whole loop
abbrev pub invariant-run_while-loop-variables : goal.invariant-run_while-loop-variables
invariant-run_while-loop-variables l = record {
  run : while_run l.frame (expression l.test) (statements l.body) (state_of l.fn.variables l.fn.world) ≡ while_run l.frame (expression l.test) (statements l.body) (state_of l.variables l.world);
  fewer : l.world.turns ≤ l.fn.world.turns;
}

abbrev pub decreases-run_while-loop-variables : goal.decreases-run_while-loop-variables
decreases-run_while-loop-variables l = l.world.turns

abbrev pub invariant-run_for-rounds : goal.invariant-run_for-rounds
invariant-run_for-rounds l = record {
  run : for_run l.frame l.name (statements l.body) l.fn.counter.count l.fn.counter.limit (state_of l.fn.variables l.fn.world)
      ≡ for_run l.frame l.name (statements l.body) l.counter.count l.counter.limit (state_of l.variables l.world);
  fewer : l.world.turns ≤ l.fn.world.turns;
}

abbrev pub decreases-run_for-rounds : goal.decreases-run_for-rounds
decreases-run_for-rounds l = l.world.turns
