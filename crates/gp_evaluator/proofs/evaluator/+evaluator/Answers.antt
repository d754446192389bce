use Rattle.std.proofs.Common.{◌≡◌, ◌∙◌, ◌+◌, refl, ap, sym, map, option_map, drop, arith, pos}
use Rattle.gp_base.specs.Run.{Returned, ret, go_on, ◌>>=◌, or_stuck}
use Rattle.gp_tree.specs.Expression as expr
use Rattle.gp_tree.specs.Expression.{expression, expressions}
use Rattle.gp_tree.specs.Program.{program_items, function_definition}
use Rattle.gp_tree.specs.Statement.{statement, statements}
use Rattle.gp_types.specs.Signature.{parameter_view, signature_view, parameter_names}
use Rattle.gp_locals.specs.Locals.{locals}
use Rattle.gp_scope.specs.ScopeView.{known_in}
use Rattle.gp_evaluator.specs.Evaluation.{completion_view, state_of, frame_view, rest_of, rest_for, source_in, resolved_view, expression_run, values_run, statement_run, block_run, for_run}
use Rattle.gp_meaning.specs.Calls.{called, put_back_each}
use Rattle.gp_meaning.specs.Meaning.{executed_each, ends_by}
use Rattle.gp_meaning.specs.State.{set, no_variables, set_each, without_variables}
use Rattle.gp_meaning.specs.Value.{number_of}
use Rattle.gp_evaluator.specs.View.{value_view, variables_view, world_view, called_view, state}
use Rattle.gp_evaluator.proofs.CallSteps.{call_goes_back}
use Rattle.gp_evaluator.proofs.Falls.{measure, largest, row_size, block_size, falls, falls_turn, turn_less, item_falls, statement_falls, body_within}
use Rattle.gp_evaluator.proofs.Goes.{call_goes, for_goes}
use Rattle.gp_evaluator.proofs.Loops.{while_round, for_body_err, for_left, for_no_turn, for_round}
use Rattle.gp_evaluator.proofs.Routines.{no_function, no_signature, function_goes, of_world}
use Rattle.gp_evaluator.proofs.Sizes.{minus_part, negation_part, binary_left, binary_right, both_left, both_right, either_left, either_right, choice_test, choice_value, choice_other, tuple_parts, call_parts, assign_part, annotated_part, evaluate_part, return_part, if_test, if_body, if_other, while_part, for_limit, for_part}
use Rattle.gp_evaluator.proofs.Steps.{exits, ends}
use Rattle.gp_evaluator.proofs.evaluator.+evaluator.Goals as goal

pub evaluate_expr-evaluate_value-requires : goal.evaluate_expr-evaluate_value-requires
evaluate_expr-evaluate_value-requires t c =
    let h = minus_part c.args.expr.now c.deref.result.now c.in-Neg.operand c.in-Neg.is c.deref.ensures in (falls _ _ _ _ _ _ c.decreases (omega arith) (omega (arith, h)), tt)

pub evaluate_expr-evaluate_truth-requires : goal.evaluate_expr-evaluate_truth-requires
evaluate_expr-evaluate_truth-requires t c =
    let h = negation_part c.args.expr.now c.deref-in-Not.result.now c.in-Not.operand c.in-Not.is c.deref-in-Not.ensures in (falls _ _ _ _ _ _ c.decreases (omega arith) (omega (arith, h)), tt)

pub evaluate_expr-evaluate_value-requires-in-Binary : goal.evaluate_expr-evaluate_value-requires-in-Binary
evaluate_expr-evaluate_value-requires-in-Binary t c =
    let h = binary_left c.args.expr.now c.deref-in-Binary.result.now c.in-Binary.op c.in-Binary.left c.in-Binary.right c.in-Binary.is c.deref-in-Binary.ensures in (falls _ _ _ _ _ _ c.decreases (omega arith) (omega (arith, h)), tt)

pub evaluate_expr-evaluate_value-requires-in-Binary-2 : goal.evaluate_expr-evaluate_value-requires-in-Binary-2
evaluate_expr-evaluate_value-requires-in-Binary-2 t c =
    let h = binary_right c.args.expr.now c.deref-in-Binary-2.result.now c.in-Binary.op c.in-Binary.left c.in-Binary.right c.in-Binary.is c.deref-in-Binary-2.ensures in (falls _ _ _ _ _ _ c.decreases c.in_ok-left-in-Binary.ensures.fewer (omega (arith, h)), tt)

pub evaluate_expr-evaluate_truth-requires-in-And : goal.evaluate_expr-evaluate_truth-requires-in-And
evaluate_expr-evaluate_truth-requires-in-And t c =
    let h = both_left c.args.expr.now c.deref-in-And.result.now c.in-And.left c.in-And.right c.in-And.is c.deref-in-And.ensures in (falls _ _ _ _ _ _ c.decreases (omega arith) (omega (arith, h)), tt)

pub evaluate_expr-evaluate_truth-requires-in-And-2 : goal.evaluate_expr-evaluate_truth-requires-in-And-2
evaluate_expr-evaluate_truth-requires-in-And-2 t c =
    let h = both_right c.args.expr.now c.deref-in-And-2.result.now c.in-And.left c.in-And.right c.in-And.is c.deref-in-And-2.ensures in (falls _ _ _ _ _ _ c.decreases c.in_ok-evaluate_truth-in-And.ensures.fewer (omega (arith, h)), tt)

pub evaluate_expr-evaluate_truth-requires-in-Or : goal.evaluate_expr-evaluate_truth-requires-in-Or
evaluate_expr-evaluate_truth-requires-in-Or t c =
    let h = either_left c.args.expr.now c.deref-in-Or.result.now c.in-Or.left c.in-Or.right c.in-Or.is c.deref-in-Or.ensures in (falls _ _ _ _ _ _ c.decreases (omega arith) (omega (arith, h)), tt)

pub evaluate_expr-evaluate_truth-requires-in-Or-2 : goal.evaluate_expr-evaluate_truth-requires-in-Or-2
evaluate_expr-evaluate_truth-requires-in-Or-2 t c =
    let h = either_right c.args.expr.now c.deref-in-Or-2.result.now c.in-Or.left c.in-Or.right c.in-Or.is c.deref-in-Or-2.ensures in (falls _ _ _ _ _ _ c.decreases c.in_ok-evaluate_truth-in-Or.ensures.fewer (omega (arith, h)), tt)

pub evaluate_expr-evaluate_truth-requires-in-Choice : goal.evaluate_expr-evaluate_truth-requires-in-Choice
evaluate_expr-evaluate_truth-requires-in-Choice t c =
    let h = choice_test c.args.expr.now c.deref-in-Choice.result.now c.in-Choice.test c.in-Choice.value c.in-Choice.other c.in-Choice.is c.deref-in-Choice.ensures in (falls _ _ _ _ _ _ c.decreases (omega arith) (omega (arith, h)), tt)

pub evaluate_expr-evaluate_value-requires-then-branch-2 : goal.evaluate_expr-evaluate_value-requires-then-branch-2
evaluate_expr-evaluate_value-requires-then-branch-2 t c =
    let h = choice_value c.args.expr.now c.deref-then-branch-2.result.now c.in-Choice.test c.in-Choice.value c.in-Choice.other c.in-Choice.is c.deref-then-branch-2.ensures in (falls _ _ _ _ _ _ c.decreases c.in_ok-evaluate_truth-in-Choice.ensures.fewer (omega (arith, h)), tt)

pub evaluate_expr-evaluate_value-requires-in-Choice : goal.evaluate_expr-evaluate_value-requires-in-Choice
evaluate_expr-evaluate_value-requires-in-Choice t c =
    let h = choice_other c.args.expr.now c.deref-in-Choice-2.result.now c.in-Choice.test c.in-Choice.value c.in-Choice.other c.in-Choice.is c.deref-in-Choice-2.ensures in (falls _ _ _ _ _ _ c.decreases c.in_ok-evaluate_truth-in-Choice.ensures.fewer (omega (arith, h)), tt)

pub evaluate_expr-evaluate_each-requires : goal.evaluate_expr-evaluate_each-requires
evaluate_expr-evaluate_each-requires t c =
    let h = tuple_parts c.args.expr.now c.deref-in-Tuple.result.now c.in-Tuple.parts c.in-Tuple.is c.deref-in-Tuple.ensures.value in (falls _ _ _ _ _ _ c.decreases (omega arith) (omega (arith, h)), tt)

pub evaluate_expr-evaluate_call-requires : goal.evaluate_expr-evaluate_call-requires
evaluate_expr-evaluate_call-requires t c =
    let h = call_parts c.args.expr.now c.deref-in-Call.result.now c.in-Call.name c.in-Call.arguments c.in-Call.is c.deref-in-Call.ensures.value in (falls _ _ _ _ _ _ c.decreases (omega arith) (omega (arith, h)), tt)

pub evaluate_expr-returns-in-Call-clause-run : goal.evaluate_expr-returns-in-Call-clause-run
evaluate_expr-returns-in-Call-clause-run t c =
    let s = state_of c.args.variables.now c.args.world.now in
    ends (option_map value_view) c.evaluate_call.result (state_of c.evaluate_call.new.variables c.evaluate_call.new.world) (expression_run c.args.frame.now (expression c.args.expr.now) s)
    (expression_run c.args.frame.now (expr.call c.in-Call.name (expressions c.deref-in-Call.result.now)) s)
    (call_goes (frame_view c.args.frame.now) (rest_for c.args.frame.now).call s c.args.expr.now c.in-Call.name c.in-Call.name c.in-Call.arguments c.deref-in-Call.result.now c.in-Call.is refl c.deref-in-Call.ensures.value)
    c.evaluate_call.ensures.run

pub evaluate_value-evaluate_expr-requires : goal.evaluate_value-evaluate_expr-requires
evaluate_value-evaluate_expr-requires t c = (falls _ _ _ _ _ _ c.decreases (omega arith) (omega arith), tt)

pub evaluate_truth-evaluate_value-requires : goal.evaluate_truth-evaluate_value-requires
evaluate_truth-evaluate_value-requires t c = (falls _ _ _ _ _ _ c.decreases (omega arith) (omega arith), tt)

pub evaluate_each-evaluate_value-requires : goal.evaluate_each-evaluate_value-requires
evaluate_each-evaluate_value-requires t c =
    (falls _ _ _ _ _ _ c.decreases c.loop-i.invariant.fewer (item_falls c.args.exprs.now c.loop-i.i c.index-exprs-i.result c.loop-i-test.true c.index-exprs-i.is), tt)

pub evaluate_call-evaluate_each-requires : goal.evaluate_call-evaluate_each-requires
evaluate_call-evaluate_each-requires t c =
    let d : measure (program_items c.args.frame.now.items.now) c.args.world.now.turns (row_size (expressions c.args.arguments.now) + 1) ≡ t = assumption in
    (falls _ _ _ _ _ _ d (omega arith) (omega arith), tt)

pub evaluate_call-call-requires : goal.evaluate_call-call-requires
evaluate_call-call-requires t c =
    let d : measure (program_items c.args.frame.now.items.now) c.args.world.now.turns (row_size (expressions c.args.arguments.now) + 1) ≡ t = assumption in
    (falls _ _ _ _ _ _ d c.in_ok-values.ensures.fewer (omega arith), tt)

pub evaluate_call-returns-in_err-put_back_each-clause-run : goal.evaluate_call-returns-in_err-put_back_each-clause-run
evaluate_call-returns-in_err-put_back_each-clause-run t c =
    let f = c.args.frame.now in
    let es = c.args.arguments.now in
    let s = state_of c.args.variables.now c.args.world.now in
    let u = state_of c.evaluate_each.new.variables c.evaluate_each.new.world in
    let w = world_view c.call.new.world in
    let vs = map value_view c.in_ok-values.values.items in
    let r = resolved_view c.in_ok-name.field-0 in
    let answer = option_map value_view c.in_ok-called.called.answer in
    let finals = map (option_map value_view) c.in_ok-called.called.finals.items in
    let given = ap (λ n. values_run f (expressions (drop n es)) s) (sym c.count_tags.ensures) ∙ c.in_ok-values.ensures.run in
    let went = ap (λ n. called (rest_for f).call r.callee n c.in_ok-tag.tag vs u.world) (sym c.as_str.ensures) ∙ c.in_ok-called.ensures.run in
    let goes = call_goes_back (frame_view f) (rest_for f).call c.args.name.now es s u r c.in_ok-tag.tag vs (record { answer = answer; finals = finals }) w c.in_ok-name.ensures c.in_ok-tag.ensures given went in
    exits (option_map value_view) c.from_residual-in_err-put_back_each.result (state_of c.put_back_each.new.variables c.call.new.world) (expression_run f (expr.call c.args.name.now (expressions es)) s) c.in_err-put_back_each.field-0.0 c.from_residual-in_err-put_back_each.ensures.1
    (λ n. goes
    ∙ ap (λ os. go_on (put_back_each f.names.now (expressions es) (map (option_map value_view) os) (state u.variables w)) (λ _. ret answer)) (sym c.deref.ensures.value)
    ∙ ap (λ o. go_on o (λ _. ret answer)) (c.in_err-put_back_each.ensures w n))

pub call-run_function-requires : goal.call-run_function-requires
call-run_function-requires t c =
    let d : measure (program_items c.args.frame.now.items.now) c.args.world.now.turns 0 ≡ t = assumption in
    (falls_turn _ _ _ _ d (turn_less (world_view c.args.world.now) (world_view c.take_turn.new.self) c.in_ok-take_turn-in-Written.ensures.run), tt)

pub execute-evaluate_value-requires : goal.execute-evaluate_value-requires
execute-evaluate_value-requires t c =
    let h = assign_part c.args.stmt.now c.in-Assign.field-0 c.in-Assign.targets c.in-Assign.expr c.in-Assign.is in (falls _ _ _ _ _ _ c.decreases (omega arith) (omega (arith, h)), tt)

pub execute-evaluate_value-requires-in-Annotated : goal.execute-evaluate_value-requires-in-Annotated
execute-evaluate_value-requires-in-Annotated t c =
    let h = annotated_part c.args.stmt.now c.in-Annotated.field-0 c.in-Annotated.name c.in-Annotated.field-2 c.in-Annotated.expr c.in-Annotated.is in (falls _ _ _ _ _ _ c.decreases (omega arith) (omega (arith, h)), tt)

pub execute-evaluate_expr-requires : goal.execute-evaluate_expr-requires
execute-evaluate_expr-requires t c =
    let h = evaluate_part c.args.stmt.now c.in-Evaluate.field-0 c.in-Evaluate.expr c.in-Evaluate.is in (falls _ _ _ _ _ _ c.decreases (omega arith) (omega (arith, h)), tt)

pub execute-evaluate_value-requires-in-Some : goal.execute-evaluate_value-requires-in-Some
execute-evaluate_value-requires-in-Some t c =
    let h = return_part c.args.stmt.now c.in-Return.field-0 c.in-Return.answer c.in-Some.expr c.in-Return.is c.in-Some.is in (falls _ _ _ _ _ _ c.decreases (omega arith) (omega (arith, h)), tt)

pub execute-evaluate_truth-requires : goal.execute-evaluate_truth-requires
execute-evaluate_truth-requires t c =
    let h = if_test c.args.stmt.now c.in-If.field-0 c.in-If.test c.in-If.body c.in-If.body.items c.in-If.other c.in-If.is in (falls _ _ _ _ _ _ c.decreases (omega arith) (omega (arith, h)), tt)

pub execute-execute_block-requires : goal.execute-execute_block-requires
execute-execute_block-requires t c =
    let h = if_body c.args.stmt.now c.in-If.field-0 c.in-If.test c.in-If.body c.deref.result.now c.in-If.other c.in-If.is c.deref.ensures.value in (falls _ _ _ _ _ _ c.decreases c.in_ok-evaluate_truth-in-If.ensures.fewer (omega (arith, h)), tt)

pub execute-execute_block-requires-in-If : goal.execute-execute_block-requires-in-If
execute-execute_block-requires-in-If t c =
    let h = if_other c.args.stmt.now c.in-If.field-0 c.in-If.test c.in-If.body c.deref-in-If.result.now c.in-If.other c.in-If.is c.deref-in-If.ensures.value in (falls _ _ _ _ _ _ c.decreases c.in_ok-evaluate_truth-in-If.ensures.fewer (omega (arith, h)), tt)

pub execute-run_while-requires : goal.execute-run_while-requires
execute-run_while-requires t c =
    let h = while_part c.args.stmt.now c.in-While.field-0 c.in-While.test c.in-While.body c.deref-in-While.result.now c.in-While.is c.deref-in-While.ensures.value in (falls _ _ _ _ _ _ c.decreases (omega arith) (omega (arith, h)), tt)

pub execute-evaluate_value-requires-in-For : goal.execute-evaluate_value-requires-in-For
execute-evaluate_value-requires-in-For t c =
    let h = for_limit c.args.stmt.now c.in-For.field-0 c.in-For.count c.in-For.body c.in-For.body.items c.in-For.name c.in-For.is in (falls _ _ _ _ _ _ c.decreases (omega arith) (omega (arith, h)), tt)

pub execute-run_for-requires : goal.execute-run_for-requires
execute-run_for-requires t c =
    let h = for_part c.args.stmt.now c.in-For.field-0 c.in-For.count c.in-For.body c.deref-in-For.result.now c.in-For.name c.in-For.is c.deref-in-For.ensures.value in (falls _ _ _ _ _ _ c.decreases c.in_ok-limit-in-For.ensures.fewer (omega (arith, h)), tt)

pub execute-returns-in_ok-counter-in-For-clause-run : goal.execute-returns-in_ok-counter-in-For-clause-run
execute-returns-in_ok-counter-in-For-clause-run t c =
    let f = c.args.frame.now in
    let s = state_of c.args.variables.now c.args.world.now in
    let u = state_of c.evaluate_value-in-For.new.variables c.evaluate_value-in-For.new.world in
    let text = c.as_str-in-For.result.now in
    let body = statements c.deref-in-For.result.now in
    ends completion_view c.run_for.result (state_of c.run_for.new.variables c.run_for.new.world) (statement_run f (statement c.args.stmt.now) s)
    (for_run f text body c.in_ok-counter-in-For.counter.count c.in_ok-counter-in-For.counter.limit u)
    (for_goes (frame_view f) (rest_for f) s c.args.stmt.now c.in-For.field-0 c.in-For.name text c.in-For.count c.in-For.body c.deref-in-For.result.now c.in-For.is c.as_str-in-For.ensures c.deref-in-For.ensures.value
    ∙ ap (λ o. go_on o (λ v. or_stuck (number_of v) >>= λ limit. for_run f text body (pos 0) limit)) c.in_ok-limit-in-For.ensures.run
    ∙ ap (λ o. (or_stuck o >>= λ limit. for_run f text body (pos 0) limit) u) c.in_ok-counter-in-For.ensures.limit
    ∙ ap (λ n. for_run f text body n c.in_ok-counter-in-For.counter.limit u) (sym c.in_ok-counter-in-For.ensures.count))
    c.run_for.ensures.run

pub execute_block-execute-requires : goal.execute_block-execute-requires
execute_block-execute-requires t c =
    (falls _ _ _ _ _ _ c.decreases c.loop-stmt.invariant.fewer (statement_falls c.args.block.now c.loop-stmt.stmt-index c.stmt-item.result c.loop-stmt-test.true c.stmt-item.is), tt)

pub run_while-evaluate_truth-requires : goal.run_while-evaluate_truth-requires
run_while-evaluate_truth-requires t c = (falls _ _ _ _ _ _ c.decreases c.loop-variables.invariant.fewer (omega arith), tt)

pub run_while-execute_block-requires : goal.run_while-execute_block-requires
run_while-execute_block-requires t c = (falls _ _ _ _ _ _ c.decreases (omega (arith, c.loop-variables.invariant.fewer, c.in_ok-evaluate_truth.ensures.fewer)) (omega arith), tt)

pub run_while-loop-variables-preserved : goal.run_while-loop-variables-preserved
run_while-loop-variables-preserved t c =
    let c' = expression c.args.test.now in
    let body = statements c.args.body.now in
    record {
      run = c.loop-variables.invariant.run
          ∙ while_round (source_in c.args.frame.now.items.now c.args.frame.now.scope.now) (frame_view c.args.frame.now) c' body (state_of c.loop-variables.variables c.loop-variables.world)
          (state_of c.evaluate_truth.new.variables c.evaluate_truth.new.world) (variables_view c.execute_block.new.variables) (world_view c.execute_block.new.world) (world_view c.take_turn.new.self)
          (completion_view c.in_ok-completion.completion) (c.in_ok-evaluate_truth.ensures.run ∙ ap (λ b. Returned b (state_of c.evaluate_truth.new.variables c.evaluate_truth.new.world)) c.if-branch.true)
          c.in_ok-completion.ensures.run (sym c.goes_back.ensures ∙ c.if-not-goes_back.false) c.in_ok-take_turn.ensures.run;
      fewer = omega (arith, c.loop-variables.invariant.fewer, c.in_ok-evaluate_truth.ensures.fewer, c.in_ok-completion.ensures.fewer, c.in_ok-take_turn.ensures.fewer);
    }

pub run_for-execute_block-requires : goal.run_for-execute_block-requires
run_for-execute_block-requires t c =
    let d : measure (program_items c.args.frame.now.items.now) c.args.world.now.turns (block_size (statements c.args.body.now) + 1) ≡ t = assumption in
    (falls _ _ _ _ _ _ d c.rounds.invariant.fewer (omega arith), tt)

pub run_for-returns-in_err-completion-clause-run : goal.run_for-returns-in_err-completion-clause-run
run_for-returns-in_err-completion-clause-run t c =
    let begun = ap (λ vs. block_run c.args.frame.now (statements c.args.body.now) (state vs (world_view c.rounds.world))) (c.set.ensures ∙ ap (λ v. set c.args.frame.now.names.now (variables_view c.rounds.variables) c.args.name.now v) c.value.ensures) in
    exits completion_view c.from_residual.result (state_of c.execute_block.new.variables c.execute_block.new.world) (for_run c.args.frame.now c.args.name.now (statements c.args.body.now) c.args.counter.count c.args.counter.limit (state_of c.args.variables.now c.args.world.now)) c.in_err-completion.field-0.0 c.from_residual.ensures.1
    (λ n. c.rounds.invariant.run ∙ for_body_err (source_in c.args.frame.now.items.now c.args.frame.now.scope.now) (frame_view c.args.frame.now) c.args.name.now (statements c.args.body.now) c.rounds.counter.count c.rounds.counter.limit (variables_view c.rounds.variables) (world_view c.rounds.world) (state_of c.execute_block.new.variables c.execute_block.new.world) _ (sym c.is_below.ensures ∙ c.rounds-test.true) (sym begun ∙ c.in_err-completion.ensures.run n))

pub run_for-returns-then-not-goes_back-clause-run : goal.run_for-returns-then-not-goes_back-clause-run
run_for-returns-then-not-goes_back-clause-run t c =
    let begun = ap (λ vs. block_run c.args.frame.now (statements c.args.body.now) (state vs (world_view c.rounds.world))) (c.set.ensures ∙ ap (λ v. set c.args.frame.now.names.now (variables_view c.rounds.variables) c.args.name.now v) c.value.ensures) in
    let u = state_of c.execute_block.new.variables c.execute_block.new.world in
    c.rounds.invariant.run ∙ for_left (source_in c.args.frame.now.items.now c.args.frame.now.scope.now) (frame_view c.args.frame.now) c.args.name.now (statements c.args.body.now) c.rounds.counter.count c.rounds.counter.limit (variables_view c.rounds.variables) (world_view c.rounds.world) u (completion_view c.in_ok-completion.completion) (sym c.is_below.ensures ∙ c.rounds-test.true) (sym begun ∙ c.in_ok-completion.ensures.run) (sym c.goes_back.ensures ∙ c.if-not-goes_back.true)
    ∙ ap (λ completion. Returned completion u) (sym c.after_loop.ensures)

pub run_for-returns-in_err-take_turn-clause-run : goal.run_for-returns-in_err-take_turn-clause-run
run_for-returns-in_err-take_turn-clause-run t c =
    let begun = ap (λ vs. block_run c.args.frame.now (statements c.args.body.now) (state vs (world_view c.rounds.world))) (c.set.ensures ∙ ap (λ v. set c.args.frame.now.names.now (variables_view c.rounds.variables) c.args.name.now v) c.value.ensures) in
    exits completion_view c.from_residual-in_err-take_turn.result (state_of c.execute_block.new.variables c.take_turn.new.self) (for_run c.args.frame.now c.args.name.now (statements c.args.body.now) c.args.counter.count c.args.counter.limit (state_of c.args.variables.now c.args.world.now)) c.in_err-take_turn.field-0.0 c.from_residual-in_err-take_turn.ensures.1
    (λ n. c.rounds.invariant.run
    ∙ for_no_turn (source_in c.args.frame.now.items.now c.args.frame.now.scope.now) (frame_view c.args.frame.now) c.args.name.now (statements c.args.body.now) c.rounds.counter.count c.rounds.counter.limit (variables_view c.rounds.variables) (world_view c.rounds.world) (variables_view c.execute_block.new.variables) (world_view c.execute_block.new.world) (world_view c.take_turn.new.self) (completion_view c.in_ok-completion.completion) _ (sym c.is_below.ensures ∙ c.rounds-test.true)
    (sym begun ∙ c.in_ok-completion.ensures.run) (sym c.goes_back.ensures ∙ c.if-not-goes_back.false) (c.in_err-take_turn.ensures.run n))

pub run_for-rounds-preserved : goal.run_for-rounds-preserved
run_for-rounds-preserved t c =
    let begun = ap (λ vs. block_run c.args.frame.now (statements c.args.body.now) (state vs (world_view c.rounds.world))) (c.set.ensures ∙ ap (λ v. set c.args.frame.now.names.now (variables_view c.rounds.variables) c.args.name.now v) c.value.ensures) in
    let f = c.args.frame.now in
    let body = statements c.args.body.now in
    let u = state_of c.execute_block.new.variables c.take_turn.new.self in
    record {
      run = c.rounds.invariant.run
          ∙ for_round (source_in c.args.frame.now.items.now c.args.frame.now.scope.now) (frame_view c.args.frame.now) c.args.name.now (statements c.args.body.now) c.rounds.counter.count c.rounds.counter.limit (variables_view c.rounds.variables) (world_view c.rounds.world) (variables_view c.execute_block.new.variables) (world_view c.execute_block.new.world) (world_view c.take_turn.new.self) (completion_view c.in_ok-completion.completion) (sym c.is_below.ensures ∙ c.rounds-test.true)
          (sym begun ∙ c.in_ok-completion.ensures.run) (sym c.goes_back.ensures ∙ c.if-not-goes_back.false) c.in_ok-take_turn.ensures.run
          ∙ ap (λ n. for_run f c.args.name.now body n c.rounds.counter.limit u) (sym c.advance.ensures.count)
          ∙ ap (λ l. for_run f c.args.name.now body c.advance.new.self.count l u) (sym c.advance.ensures.limit);
      fewer = omega (arith, c.rounds.invariant.fewer, c.in_ok-completion.ensures.fewer, c.in_ok-take_turn.ensures.fewer);
    }

pub run_function-returns-in_default-clause-run : goal.run_function-returns-in_default-clause-run
run_function-returns-in_default-clause-run t c = λ n. no_function c.args.items.now c.args.scope.now c.args.name.now (map value_view c.args.values.now) (world_view c.args.world.now) (sym c.in_default.ensures)

pub run_function-returns-in_default-signature-clause-run : goal.run_function-returns-in_default-signature-clause-run
run_function-returns-in_default-signature-clause-run t c = λ n. no_signature c.args.items.now c.args.scope.now c.args.name.now (map value_view c.args.values.now) (world_view c.args.world.now) (function_definition c.in-Some.function.now) (sym c.in-Some.ensures) (sym c.in_default-signature.ensures)

pub run_function-execute_block-requires : goal.run_function-execute_block-requires
run_function-execute_block-requires t c =
    let d : measure (program_items c.args.items.now) c.args.world.now.turns (largest (program_items c.args.items.now) + 1) ≡ t = assumption in
    let h = body_within (program_items c.args.items.now) c.args.name.now (function_definition c.in-Some.function.now) (sym c.in-Some.ensures) in
    let g : block_size (statements c.deref-2.result.now) ≡ block_size (statements c.in-Some.function.now.body.items) = ap (λ b. block_size (statements b)) c.deref-2.ensures.value in
    (falls _ _ _ _ _ _ d (omega arith) (omega (arith, h, g)), tt)

pub run_function-returns-in_err-completion-clause-run : goal.run_function-returns-in_err-completion-clause-run
run_function-returns-in_err-completion-clause-run t c =
    let items = c.args.items.now in
    let scope = c.args.scope.now in
    let name = c.args.name.now in
    let vs = map value_view c.args.values.now in
    let w = world_view c.args.world.now in
    let fd = function_definition c.in-Some.function.now in
    let sig = signature_view c.in-Some-signature.signature.now in
    let names = c.in_ok-names.names in
    let begun = variables_view c.in_ok-variables.variables in
    let rest = rest_of items scope in
    let known = known_in scope in
    let params : c.as_slice-params.result.now ≡ c.in-Some-signature.signature.now.params = c.as_slice-params.ensures in
    let named : names ≡ locals (parameter_names sig.params) fd.body =
    c.in_ok-names.ensures ∙ ap (λ ps. locals (parameter_names (map parameter_view ps)) (statements c.deref.result.now)) params
    ∙ ap (λ b. locals (parameter_names sig.params) (statements b)) c.deref.ensures.value in
    let set_up : begun ≡ set_each names (no_variables names) (parameter_names sig.params) vs =
    c.in_ok-variables.ensures ∙ ap (λ ps. set_each names (no_variables names) (parameter_names (map parameter_view ps)) vs) params in
    let goes = function_goes items scope name vs w fd sig names begun (sym c.in-Some.ensures) (sym c.in-Some-signature.ensures) named set_up in
    let same = ap (λ b. executed_each (record { known = known; names = names }) rest (statements b) (state begun w)) c.deref-2.ensures.value in
    exits called_view c.from_residual-in_err-completion.result (world_view c.execute_block.new.world) (rest.call name vs w) c.in_err-completion.field-0.0 c.from_residual-in_err-completion.ensures.1
    (λ n. goes ∙ ap (λ o. without_variables (go_on o (ends_by names sig.params))) (sym same ∙ c.in_err-completion.ensures.run n))

pub run_function-returns-clause-run : goal.run_function-returns-clause-run
run_function-returns-clause-run t c =
    let items = c.args.items.now in
    let scope = c.args.scope.now in
    let name = c.args.name.now in
    let vs = map value_view c.args.values.now in
    let w = world_view c.args.world.now in
    let fd = function_definition c.in-Some.function.now in
    let sig = signature_view c.in-Some-signature.signature.now in
    let names = c.in_ok-names.names in
    let begun = variables_view c.in_ok-variables.variables in
    let rest = rest_of items scope in
    let known = known_in scope in
    let params : c.as_slice-params.result.now ≡ c.in-Some-signature.signature.now.params = c.as_slice-params.ensures in
    let named : names ≡ locals (parameter_names sig.params) fd.body =
    c.in_ok-names.ensures ∙ ap (λ ps. locals (parameter_names (map parameter_view ps)) (statements c.deref.result.now)) params
    ∙ ap (λ b. locals (parameter_names sig.params) (statements b)) c.deref.ensures.value in
    let set_up : begun ≡ set_each names (no_variables names) (parameter_names sig.params) vs =
    c.in_ok-variables.ensures ∙ ap (λ ps. set_each names (no_variables names) (parameter_names (map parameter_view ps)) vs) params in
    let goes = function_goes items scope name vs w fd sig names begun (sym c.in-Some.ensures) (sym c.in-Some-signature.ensures) named set_up in
    let same = ap (λ b. executed_each (record { known = known; names = names }) rest (statements b) (state begun w)) c.deref-2.ensures.value in
    let u = state_of c.execute_block.new.variables c.execute_block.new.world in
    let completion = completion_view c.in_ok-completion.completion in
    ends called_view c.leave.result (world_view c.execute_block.new.world) (rest.call name vs w) (without_variables (ends_by names (map parameter_view c.as_slice-params.result.now) completion u))
    (goes ∙ ap (λ o. without_variables (go_on o (ends_by names sig.params))) (sym same ∙ c.in_ok-completion.ensures.run)
    ∙ ap (λ ps. without_variables (ends_by names (map parameter_view ps) completion u)) (sym params))
    (of_world called_view c.leave.result (variables_view c.execute_block.new.variables) (world_view c.execute_block.new.world)
    (ends_by names (map parameter_view c.as_slice-params.result.now) completion u) (c.leave.ensures (world_view c.execute_block.new.world)))
