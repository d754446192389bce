use Rattle.std.proofs.Common.{◌∙◌, ap, subst, sym, map, drop, Ok}
use Rattle.gp_tree.specs.Expression.{expression, expressions}
use Rattle.gp_typing.specs.Expressions as spec
use Rattle.gp_typing.specs.code.ExpressionView.{value_view, values_view, typed_in, valued_in, values_in}
use Rattle.gp_types.specs.View.{ty_view}
use Rattle.gp_typing.specs.code.CallView.{call_in, callee_in, arguments_view, tag_of}
use Rattle.gp_locals.specs.CalleeView.{callee_view}
use Rattle.gp_typing.specs.Checks.{Answers}
use Rattle.gp_typing.specs.code.Operations.{place_in, minus_of, negation_of, binary_of, both_of, either_of, choice_of}
use Rattle.gp_typing.specs.View.{expression_view}
use Rattle.gp_typing.proofs.Binds.{bind-err, bind-ok, exits, ends, one-err, one-ok, two-err, two-err-2, two-ok, three-err, three-err-2, three-err-3, three-ok, number-typed, boolean-typed, text-typed, place-typed, minus-typed, negation-typed, binary-typed, both-typed, either-typed, choice-typed, tuple-typed, call-typed, call-none, call-no-values, call-called, values-step, values-err, values-end}
use Rattle.gp_typing.proofs.expressions.+typing.Goals as goal

pub type_expr-returns-in-Int : goal.type_expr-returns-in-Int
type_expr-returns-in-Int t c =
    number-typed c.args.context.now c.args.expr.now c.in-Int.number c.in-Int.is ∙ ap (λ x. Ok x) (sym c.number_expr.ensures)

pub type_expr-returns-in-Bool : goal.type_expr-returns-in-Bool
type_expr-returns-in-Bool t c =
    boolean-typed c.args.context.now c.args.expr.now c.in-Bool.value c.in-Bool.is ∙ ap (λ x. Ok x) (sym c.boolean_expr.ensures)

pub type_expr-returns-in-Text : goal.type_expr-returns-in-Text
type_expr-returns-in-Text t c =
    λ n. text-typed c.args.context.now c.args.expr.now _ c.in-Text.is

pub type_expr-returns-in-Place : goal.type_expr-returns-in-Place
type_expr-returns-in-Place t c =
    ends expression_view c.type_place.result (typed_in c.args.context.now (expression c.args.expr.now)) (place_in c.args.context.now c.in-Place.place)
    (place-typed c.args.context.now c.args.expr.now c.in-Place.place c.in-Place.is) c.type_place.ensures

pub type_expr-returns-in_err-type_value-in-Neg : goal.type_expr-returns-in_err-type_value-in-Neg
type_expr-returns-in_err-type_value-in-Neg t c =
    exits expression_view c.from_residual.result (typed_in c.args.context.now (expression c.args.expr.now)) c.in_err-type_value-in-Neg.field-0.0 c.from_residual.ensures.1
    (λ n. one-err c.args.context.now c.args.expr.now c.deref.result.now c.in-Neg.operand.value (minus_of c.args.context.now.line) (minus-typed c.args.context.now c.args.expr.now c.in-Neg.operand c.in-Neg.is) c.deref.ensures c.in_err-type_value-in-Neg.field-0.0 (c.in_err-type_value-in-Neg.ensures n))

pub type_expr-returns-in_ok-type_value-in-Neg : goal.type_expr-returns-in_ok-type_value-in-Neg
type_expr-returns-in_ok-type_value-in-Neg t c =
    ends expression_view c.minus.result (typed_in c.args.context.now (expression c.args.expr.now)) (minus_of c.args.context.now.line (value_view c.in_ok-type_value-in-Neg.field-0))
    (one-ok c.args.context.now c.args.expr.now c.deref.result.now c.in-Neg.operand.value (minus_of c.args.context.now.line) (minus-typed c.args.context.now c.args.expr.now c.in-Neg.operand c.in-Neg.is) c.deref.ensures (value_view c.in_ok-type_value-in-Neg.field-0) c.in_ok-type_value-in-Neg.ensures) c.minus.ensures

pub type_expr-returns-in_err-type_value-in-Not : goal.type_expr-returns-in_err-type_value-in-Not
type_expr-returns-in_err-type_value-in-Not t c =
    exits expression_view c.from_residual-in_err-type_value-in-Not.result (typed_in c.args.context.now (expression c.args.expr.now)) c.in_err-type_value-in-Not.field-0.0 c.from_residual-in_err-type_value-in-Not.ensures.1
    (λ n. one-err c.args.context.now c.args.expr.now c.deref-in-Not.result.now c.in-Not.operand.value (negation_of c.args.context.now.line) (negation-typed c.args.context.now c.args.expr.now c.in-Not.operand c.in-Not.is) c.deref-in-Not.ensures c.in_err-type_value-in-Not.field-0.0 (c.in_err-type_value-in-Not.ensures n))

pub type_expr-returns-in_ok-type_value-in-Not : goal.type_expr-returns-in_ok-type_value-in-Not
type_expr-returns-in_ok-type_value-in-Not t c =
    ends expression_view c.negation.result (typed_in c.args.context.now (expression c.args.expr.now)) (negation_of c.args.context.now.line (value_view c.in_ok-type_value-in-Not.field-0))
    (one-ok c.args.context.now c.args.expr.now c.deref-in-Not.result.now c.in-Not.operand.value (negation_of c.args.context.now.line) (negation-typed c.args.context.now c.args.expr.now c.in-Not.operand c.in-Not.is) c.deref-in-Not.ensures (value_view c.in_ok-type_value-in-Not.field-0) c.in_ok-type_value-in-Not.ensures) c.negation.ensures

pub type_expr-returns-in_err-left-in-Binary : goal.type_expr-returns-in_err-left-in-Binary
type_expr-returns-in_err-left-in-Binary t c =
    exits expression_view c.from_residual-in_err-left-in-Binary.result (typed_in c.args.context.now (expression c.args.expr.now)) c.in_err-left-in-Binary.field-0.0 c.from_residual-in_err-left-in-Binary.ensures.1
    (λ n. two-err c.args.context.now c.args.expr.now c.deref-in-Binary.result.now c.in-Binary.left.value c.in-Binary.right.value c.in-Binary.right.value (binary_of c.args.context.now.line c.in-Binary.op)
    (binary-typed c.args.context.now c.args.expr.now c.in-Binary.op c.in-Binary.left c.in-Binary.right c.in-Binary.is) c.deref-in-Binary.ensures c.in_err-left-in-Binary.field-0.0 (c.in_err-left-in-Binary.ensures n))

pub type_expr-returns-in_err-right-in-Binary : goal.type_expr-returns-in_err-right-in-Binary
type_expr-returns-in_err-right-in-Binary t c =
    exits expression_view c.from_residual-in_err-right-in-Binary.result (typed_in c.args.context.now (expression c.args.expr.now)) c.in_err-right-in-Binary.field-0.0 c.from_residual-in_err-right-in-Binary.ensures.1
    (λ n. two-err-2 c.args.context.now c.args.expr.now c.deref-in-Binary.result.now c.in-Binary.left.value c.deref-in-Binary-2.result.now c.in-Binary.right.value (binary_of c.args.context.now.line c.in-Binary.op)
    (binary-typed c.args.context.now c.args.expr.now c.in-Binary.op c.in-Binary.left c.in-Binary.right c.in-Binary.is) c.deref-in-Binary.ensures c.deref-in-Binary-2.ensures (value_view c.in_ok-left-in-Binary.left) c.in_ok-left-in-Binary.ensures c.in_err-right-in-Binary.field-0.0 (c.in_err-right-in-Binary.ensures n))

pub type_expr-returns-in_ok-right-in-Binary : goal.type_expr-returns-in_ok-right-in-Binary
type_expr-returns-in_ok-right-in-Binary t c =
    ends expression_view c.binary.result (typed_in c.args.context.now (expression c.args.expr.now)) (binary_of c.args.context.now.line c.in-Binary.op (value_view c.in_ok-left-in-Binary.left) (value_view c.in_ok-right-in-Binary.right))
    (two-ok c.args.context.now c.args.expr.now c.deref-in-Binary.result.now c.in-Binary.left.value c.deref-in-Binary-2.result.now c.in-Binary.right.value (binary_of c.args.context.now.line c.in-Binary.op)
    (binary-typed c.args.context.now c.args.expr.now c.in-Binary.op c.in-Binary.left c.in-Binary.right c.in-Binary.is) c.deref-in-Binary.ensures c.deref-in-Binary-2.ensures (value_view c.in_ok-left-in-Binary.left) c.in_ok-left-in-Binary.ensures (value_view c.in_ok-right-in-Binary.right) c.in_ok-right-in-Binary.ensures) c.binary.ensures

pub type_expr-returns-in_err-left-in-And : goal.type_expr-returns-in_err-left-in-And
type_expr-returns-in_err-left-in-And t c =
    exits expression_view c.from_residual-in_err-left-in-And.result (typed_in c.args.context.now (expression c.args.expr.now)) c.in_err-left-in-And.field-0.0 c.from_residual-in_err-left-in-And.ensures.1
    (λ n. two-err c.args.context.now c.args.expr.now c.deref-in-And.result.now c.in-And.left.value c.in-And.right.value c.in-And.right.value (both_of c.args.context.now.line)
    (both-typed c.args.context.now c.args.expr.now c.in-And.left c.in-And.right c.in-And.is) c.deref-in-And.ensures c.in_err-left-in-And.field-0.0 (c.in_err-left-in-And.ensures n))

pub type_expr-returns-in_err-right-in-And : goal.type_expr-returns-in_err-right-in-And
type_expr-returns-in_err-right-in-And t c =
    exits expression_view c.from_residual-in_err-right-in-And.result (typed_in c.args.context.now (expression c.args.expr.now)) c.in_err-right-in-And.field-0.0 c.from_residual-in_err-right-in-And.ensures.1
    (λ n. two-err-2 c.args.context.now c.args.expr.now c.deref-in-And.result.now c.in-And.left.value c.deref-in-And-2.result.now c.in-And.right.value (both_of c.args.context.now.line)
    (both-typed c.args.context.now c.args.expr.now c.in-And.left c.in-And.right c.in-And.is) c.deref-in-And.ensures c.deref-in-And-2.ensures (value_view c.in_ok-left-in-And.left) c.in_ok-left-in-And.ensures c.in_err-right-in-And.field-0.0 (c.in_err-right-in-And.ensures n))

pub type_expr-returns-in_ok-right-in-And : goal.type_expr-returns-in_ok-right-in-And
type_expr-returns-in_ok-right-in-And t c =
    ends expression_view c.both.result (typed_in c.args.context.now (expression c.args.expr.now)) (both_of c.args.context.now.line (value_view c.in_ok-left-in-And.left) (value_view c.in_ok-right-in-And.right))
    (two-ok c.args.context.now c.args.expr.now c.deref-in-And.result.now c.in-And.left.value c.deref-in-And-2.result.now c.in-And.right.value (both_of c.args.context.now.line)
    (both-typed c.args.context.now c.args.expr.now c.in-And.left c.in-And.right c.in-And.is) c.deref-in-And.ensures c.deref-in-And-2.ensures (value_view c.in_ok-left-in-And.left) c.in_ok-left-in-And.ensures (value_view c.in_ok-right-in-And.right) c.in_ok-right-in-And.ensures) c.both.ensures

pub type_expr-returns-in_err-left-in-Or : goal.type_expr-returns-in_err-left-in-Or
type_expr-returns-in_err-left-in-Or t c =
    exits expression_view c.from_residual-in_err-left-in-Or.result (typed_in c.args.context.now (expression c.args.expr.now)) c.in_err-left-in-Or.field-0.0 c.from_residual-in_err-left-in-Or.ensures.1
    (λ n. two-err c.args.context.now c.args.expr.now c.deref-in-Or.result.now c.in-Or.left.value c.in-Or.right.value c.in-Or.right.value (either_of c.args.context.now.line)
    (either-typed c.args.context.now c.args.expr.now c.in-Or.left c.in-Or.right c.in-Or.is) c.deref-in-Or.ensures c.in_err-left-in-Or.field-0.0 (c.in_err-left-in-Or.ensures n))

pub type_expr-returns-in_err-right-in-Or : goal.type_expr-returns-in_err-right-in-Or
type_expr-returns-in_err-right-in-Or t c =
    exits expression_view c.from_residual-in_err-right-in-Or.result (typed_in c.args.context.now (expression c.args.expr.now)) c.in_err-right-in-Or.field-0.0 c.from_residual-in_err-right-in-Or.ensures.1
    (λ n. two-err-2 c.args.context.now c.args.expr.now c.deref-in-Or.result.now c.in-Or.left.value c.deref-in-Or-2.result.now c.in-Or.right.value (either_of c.args.context.now.line)
    (either-typed c.args.context.now c.args.expr.now c.in-Or.left c.in-Or.right c.in-Or.is) c.deref-in-Or.ensures c.deref-in-Or-2.ensures (value_view c.in_ok-left-in-Or.left) c.in_ok-left-in-Or.ensures c.in_err-right-in-Or.field-0.0 (c.in_err-right-in-Or.ensures n))

pub type_expr-returns-in_ok-right-in-Or : goal.type_expr-returns-in_ok-right-in-Or
type_expr-returns-in_ok-right-in-Or t c =
    ends expression_view c.either.result (typed_in c.args.context.now (expression c.args.expr.now)) (either_of c.args.context.now.line (value_view c.in_ok-left-in-Or.left) (value_view c.in_ok-right-in-Or.right))
    (two-ok c.args.context.now c.args.expr.now c.deref-in-Or.result.now c.in-Or.left.value c.deref-in-Or-2.result.now c.in-Or.right.value (either_of c.args.context.now.line)
    (either-typed c.args.context.now c.args.expr.now c.in-Or.left c.in-Or.right c.in-Or.is) c.deref-in-Or.ensures c.deref-in-Or-2.ensures (value_view c.in_ok-left-in-Or.left) c.in_ok-left-in-Or.ensures (value_view c.in_ok-right-in-Or.right) c.in_ok-right-in-Or.ensures) c.either.ensures

pub type_expr-returns-in_err-test-in-Choice : goal.type_expr-returns-in_err-test-in-Choice
type_expr-returns-in_err-test-in-Choice t c =
    exits expression_view c.from_residual-in_err-test-in-Choice.result (typed_in c.args.context.now (expression c.args.expr.now)) c.in_err-test-in-Choice.field-0.0 c.from_residual-in_err-test-in-Choice.ensures.1
    (λ n. three-err c.args.context.now c.args.expr.now c.deref-in-Choice.result.now c.in-Choice.test.value c.in-Choice.value.value c.in-Choice.value.value c.in-Choice.other.value c.in-Choice.other.value (choice_of c.args.context.now.line)
    (choice-typed c.args.context.now c.args.expr.now c.in-Choice.test c.in-Choice.value c.in-Choice.other c.in-Choice.is) c.deref-in-Choice.ensures c.in_err-test-in-Choice.field-0.0 (c.in_err-test-in-Choice.ensures n))

pub type_expr-returns-in_err-value-in-Choice : goal.type_expr-returns-in_err-value-in-Choice
type_expr-returns-in_err-value-in-Choice t c =
    exits expression_view c.from_residual-in_err-value-in-Choice.result (typed_in c.args.context.now (expression c.args.expr.now)) c.in_err-value-in-Choice.field-0.0 c.from_residual-in_err-value-in-Choice.ensures.1
    (λ n. three-err-2 c.args.context.now c.args.expr.now c.deref-in-Choice.result.now c.in-Choice.test.value c.deref-in-Choice-2.result.now c.in-Choice.value.value c.in-Choice.other.value c.in-Choice.other.value (choice_of c.args.context.now.line)
    (choice-typed c.args.context.now c.args.expr.now c.in-Choice.test c.in-Choice.value c.in-Choice.other c.in-Choice.is) c.deref-in-Choice.ensures c.deref-in-Choice-2.ensures (value_view c.in_ok-test-in-Choice.test) c.in_ok-test-in-Choice.ensures c.in_err-value-in-Choice.field-0.0 (c.in_err-value-in-Choice.ensures n))

pub type_expr-returns-in_err-other-in-Choice : goal.type_expr-returns-in_err-other-in-Choice
type_expr-returns-in_err-other-in-Choice t c =
    exits expression_view c.from_residual-in_err-other-in-Choice.result (typed_in c.args.context.now (expression c.args.expr.now)) c.in_err-other-in-Choice.field-0.0 c.from_residual-in_err-other-in-Choice.ensures.1
    (λ n. three-err-3 c.args.context.now c.args.expr.now c.deref-in-Choice.result.now c.in-Choice.test.value c.deref-in-Choice-2.result.now c.in-Choice.value.value c.deref-in-Choice-3.result.now c.in-Choice.other.value (choice_of c.args.context.now.line)
    (choice-typed c.args.context.now c.args.expr.now c.in-Choice.test c.in-Choice.value c.in-Choice.other c.in-Choice.is) c.deref-in-Choice.ensures c.deref-in-Choice-2.ensures c.deref-in-Choice-3.ensures (value_view c.in_ok-test-in-Choice.test) c.in_ok-test-in-Choice.ensures (value_view c.in_ok-value-in-Choice.value) c.in_ok-value-in-Choice.ensures c.in_err-other-in-Choice.field-0.0 (c.in_err-other-in-Choice.ensures n))

pub type_expr-returns-in_ok-other-in-Choice : goal.type_expr-returns-in_ok-other-in-Choice
type_expr-returns-in_ok-other-in-Choice t c =
    ends expression_view c.choice.result (typed_in c.args.context.now (expression c.args.expr.now)) (choice_of c.args.context.now.line (value_view c.in_ok-test-in-Choice.test) (value_view c.in_ok-value-in-Choice.value) (value_view c.in_ok-other-in-Choice.other))
    (three-ok c.args.context.now c.args.expr.now c.deref-in-Choice.result.now c.in-Choice.test.value c.deref-in-Choice-2.result.now c.in-Choice.value.value c.deref-in-Choice-3.result.now c.in-Choice.other.value (choice_of c.args.context.now.line)
    (choice-typed c.args.context.now c.args.expr.now c.in-Choice.test c.in-Choice.value c.in-Choice.other c.in-Choice.is) c.deref-in-Choice.ensures c.deref-in-Choice-2.ensures c.deref-in-Choice-3.ensures (value_view c.in_ok-test-in-Choice.test) c.in_ok-test-in-Choice.ensures (value_view c.in_ok-value-in-Choice.value) c.in_ok-value-in-Choice.ensures (value_view c.in_ok-other-in-Choice.other) c.in_ok-other-in-Choice.ensures) c.choice.ensures

pub type_expr-returns-in_err-type_values-in-Tuple : goal.type_expr-returns-in_err-type_values-in-Tuple
type_expr-returns-in_err-type_values-in-Tuple t c =
    exits expression_view c.from_residual-in_err-type_values-in-Tuple.result (typed_in c.args.context.now (expression c.args.expr.now)) c.in_err-type_values-in-Tuple.field-0.0 c.from_residual-in_err-type_values-in-Tuple.ensures.1
    (λ n. tuple-typed c.args.context.now c.args.expr.now c.in-Tuple.parts c.in-Tuple.is ∙ bind-err (values_in c.args.context.now (expressions c.in-Tuple.parts.items)) (λ vs. spec.tupled c.args.context.now.line vs) c.in_err-type_values-in-Tuple.field-0.0 (ap (λ xs. values_in c.args.context.now (expressions xs)) (sym c.deref-in-Tuple.ensures.value) ∙ c.in_err-type_values-in-Tuple.ensures n))

pub type_expr-returns-in_ok-type_values-in-Tuple : goal.type_expr-returns-in_ok-type_values-in-Tuple
type_expr-returns-in_ok-type_values-in-Tuple t c =
    ends expression_view c.tuple.result (typed_in c.args.context.now (expression c.args.expr.now)) (spec.tupled c.args.context.now.line (values_view c.in_ok-type_values-in-Tuple.field-0))
    (tuple-typed c.args.context.now c.args.expr.now c.in-Tuple.parts c.in-Tuple.is ∙ bind-ok (values_in c.args.context.now (expressions c.in-Tuple.parts.items)) (λ vs. spec.tupled c.args.context.now.line vs) (values_view c.in_ok-type_values-in-Tuple.field-0) (ap (λ xs. values_in c.args.context.now (expressions xs)) (sym c.deref-in-Tuple.ensures.value) ∙ c.in_ok-type_values-in-Tuple.ensures)) c.tuple.ensures

pub type_value-returns-in_err-typed : goal.type_value-returns-in_err-typed
type_value-returns-in_err-typed t c =
    exits value_view c.from_residual.result (valued_in c.args.context.now (expression c.args.expr.now)) c.in_err-typed.field-0.0 c.from_residual.ensures.1
    (λ n. bind-err (typed_in c.args.context.now (expression c.args.expr.now)) (spec.value_of c.args.context.now.line) c.in_err-typed.field-0.0 (c.in_err-typed.ensures n))

pub type_value-returns : goal.type_value-returns
type_value-returns t c =
    ends value_view c.value_of.result (valued_in c.args.context.now (expression c.args.expr.now)) (spec.value_of c.args.context.now.line (expression_view c.in_ok-typed.typed))
    (bind-ok (typed_in c.args.context.now (expression c.args.expr.now)) (spec.value_of c.args.context.now.line) (expression_view c.in_ok-typed.typed) c.in_ok-typed.ensures) c.value_of.ensures

pub type_expr-returns-in-Call : goal.type_expr-returns-in-Call
type_expr-returns-in-Call t c =
    ends expression_view c.type_call.result (typed_in c.args.context.now (expression c.args.expr.now)) (call_in c.args.context.now c.in-Call.name (expressions c.in-Call.arguments.items))
    (call-typed c.args.context.now c.args.expr.now c.in-Call.name c.in-Call.arguments c.in-Call.is)
    (subst (λ xs. Answers expression_view c.type_call.result (call_in c.args.context.now c.in-Call.name (expressions xs))) c.deref-in-Call.ensures.value c.type_call.ensures)

pub type_call-returns-in_err-values : goal.type_call-returns-in_err-values
type_call-returns-in_err-values t c =
    exits expression_view c.from_residual-in_err-values.result (call_in c.args.context.now c.args.name.now (expressions c.args.arguments.now)) c.in_err-values.field-0.0 c.from_residual-in_err-values.ensures.1
    (λ n. call-no-values c.args.context.now c.args.name.now c.args.arguments.now (callee_view c.in_ok-callee.callee) (ap (callee_in c.args.context.now) (sym c.as_str.ensures) ∙ c.in_ok-callee.ensures)
    c.in_ok-tag.tag
    (ap (λ b. tag_of c.args.context.now.line b (expressions c.args.arguments.now)) (sym c.takes_tag.ensures) ∙ c.in_ok-tag.ensures)
    c.in_err-values.field-0.0 (ap (λ n. values_in c.args.context.now (expressions (drop n c.args.arguments.now))) (sym c.count_tags.ensures) ∙ c.in_err-values.ensures n))

pub type_call-returns : goal.type_call-returns
type_call-returns t c =
    ends expression_view c.call.result (call_in c.args.context.now c.args.name.now (expressions c.args.arguments.now)) (spec.called c.args.context.now.line c.args.name.now (callee_view c.in_ok-callee.callee) (arguments_view c.in_ok-tag.tag c.in_ok-values.values))
    (call-called c.args.context.now c.args.name.now c.args.arguments.now (callee_view c.in_ok-callee.callee) (ap (callee_in c.args.context.now) (sym c.as_str.ensures) ∙ c.in_ok-callee.ensures)
    c.in_ok-tag.tag
    (ap (λ b. tag_of c.args.context.now.line b (expressions c.args.arguments.now)) (sym c.takes_tag.ensures) ∙ c.in_ok-tag.ensures)
    (values_view c.in_ok-values.values) (ap (λ n. values_in c.args.context.now (expressions (drop n c.args.arguments.now))) (sym c.count_tags.ensures) ∙ c.in_ok-values.ensures))
    c.call.ensures

pub type_values-loop-i-preserved : goal.type_values-loop-i-preserved
type_values-loop-i-preserved t c =
    values-step c.args.context.now c.args.exprs.now c.loop-i.i (map expression_view c.loop-i.values.exprs.items) (map ty_view c.loop-i.values.types.items)
    (values_in c.args.context.now (expressions (drop c.args.first c.args.exprs.now))) c.loop-i.invariant
    c.index-exprs-i.result c.loop-i-test.true c.index-exprs-i.is (value_view c.in_ok-value.value) c.in_ok-value.ensures
    (map expression_view c.push.new.self.exprs.items) c.in_ok-push.ensures.exprs (map ty_view c.push.new.self.types.items) c.in_ok-push.ensures.types

pub type_values-returns-in_err-value : goal.type_values-returns-in_err-value
type_values-returns-in_err-value t c =
    exits values_view c.from_residual.result (values_in c.args.context.now (expressions (drop c.args.first c.args.exprs.now))) c.in_err-value.field-0.0 c.from_residual.ensures.1
    (λ n. values-err c.args.context.now c.args.exprs.now c.loop-i.i (map expression_view c.loop-i.values.exprs.items) (map ty_view c.loop-i.values.types.items)
    (values_in c.args.context.now (expressions (drop c.args.first c.args.exprs.now))) c.loop-i.invariant
    c.index-exprs-i.result c.loop-i-test.true c.index-exprs-i.is c.in_err-value.field-0.0 (c.in_err-value.ensures n))

pub type_values-returns : goal.type_values-returns
type_values-returns t c =
    values-end c.args.context.now c.args.exprs.now c.loop-i.i (map expression_view c.loop-i.values.exprs.items) (map ty_view c.loop-i.values.types.items)
    (values_in c.args.context.now (expressions (drop c.args.first c.args.exprs.now))) c.loop-i.invariant c.loop-i-test.false

pub type_call-returns-in_err-callee : goal.type_call-returns-in_err-callee
type_call-returns-in_err-callee t c =
    exits expression_view c.from_residual.result (call_in c.args.context.now c.args.name.now (expressions c.args.arguments.now)) c.in_err-callee.field-0.0 c.from_residual.ensures.1
    (λ n. call-none c.args.context.now c.args.name.now c.args.arguments.now c.in_err-callee.field-0.0 (ap (callee_in c.args.context.now) (sym c.as_str.ensures) ∙ c.in_err-callee.ensures n))
