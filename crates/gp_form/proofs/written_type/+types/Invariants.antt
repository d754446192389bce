use Rattle.std.proofs.Common.{◌≡◌, map, ◌+◌, ◌-◌, ◌*◌}
use Rattle.gp_lex.specs.declared.token.Symbol.TheVariants as symbol
use Rattle.gp_form.specs.code.FormReading.{listed, listed_from, type_at, marked_type}
use Rattle.gp_form.specs.code.Steps.{past_symbol, with_front}
use Rattle.gp_tree.specs.TypeExpression.{type_expression, parameter_type}
use Rattle.gp_form.proofs.written_type.+types.Given as goal

abbrev pub decreases-type_at : goal.decreases-type_at
decreases-type_at l = 6 * l.depth

abbrev pub decreases-type_with : goal.decreases-type_with
decreases-type_with l = 6 * l.depth + 5

abbrev pub decreases-tuple_behind : goal.decreases-tuple_behind
decreases-tuple_behind l = 6 * l.depth + 4

abbrev pub decreases-function_behind : goal.decreases-function_behind
decreases-function_behind l = 6 * l.depth + 4

abbrev pub decreases-answer : goal.decreases-answer
decreases-answer l = 6 * l.depth + 1

abbrev pub decreases-marked_type : goal.decreases-marked_type
decreases-marked_type l = 6 * l.depth + 1

abbrev pub decreases-types : goal.decreases-types
decreases-types l = 6 * l.depth + 1

abbrev pub decreases-marked_types : goal.decreases-marked_types
decreases-marked_types l = 6 * l.depth + 2

abbrev pub invariant-types-loop-turn : goal.invariant-types-loop-turn
invariant-types-loop-turn l = listed (type_at l.depth) (past_symbol symbol.RightBracket) l.fn.tokens ≡ with_front (map type_expression l.found.items) (listed_from (type_at l.depth) (past_symbol symbol.RightBracket) (l._turn-end - l._turn) l.rest)

abbrev pub invariant-marked_types-loop-turn : goal.invariant-marked_types-loop-turn
invariant-marked_types-loop-turn l = listed (marked_type (type_at l.depth)) (past_symbol symbol.RightBracket) l.fn.tokens ≡ with_front (map parameter_type l.found.items) (listed_from (marked_type (type_at l.depth)) (past_symbol symbol.RightBracket) (l._turn-end - l._turn) l.rest)
