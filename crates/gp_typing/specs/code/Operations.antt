-- What operators and places answer, once their operands are values.
use Rattle.std.specs.Prelude.{◌&&◌}
use Rattle.gp_base.specs.declared.name.LineNo.{LineNo}
use Rattle.gp_tree.specs.declared.expr.BinOp.{BinOp}
use Rattle.gp_tree.specs.declared.place.Place.{Place}
use Rattle.gp_types.specs.Types as types
use Rattle.gp_types.specs.Same.{same_type}
use Rattle.gp_typing.specs.declared.fault.TypeFault.TheVariants.{Mismatch}
use Rattle.gp_typing.specs.Checks.{Checked, ◌>>=◌, check, found}
use Rattle.gp_locals.specs.Environment.{Names, Environment}
use Rattle.gp_scope.specs.Known.{Known}
use Rattle.gp_scope.specs.ScopeView.{known_in}
use Rattle.gp_typing.specs.declared.context.Context.{Context}
use Rattle.gp_typing.specs.Expressions.{Value, has_type, is_int, is_bool, answer_type, place_type}
use Rattle.gp_typing.specs.Typed as typed
use Rattle.gp_typing.specs.Typed.{TypedExpression}

abbrev pub place_of : Known → Names → Environment → LineNo → Place → Checked TypedExpression
place_of known names e line p = place_type known names e line p >>= λ ty. has_type ty (typed.place p)

-- a place in this context
abbrev pub place_in : Context → Place → Checked TypedExpression
place_in context p = place_of (known_in context.scope.now) context.names.now context.environment.now context.line p

abbrev pub minus_of : LineNo → Value → Checked TypedExpression
minus_of line x = check (is_int x.ty) (Mismatch line) >>= λ _. has_type types.Int (typed.minus x.tree)

abbrev pub negation_of : LineNo → Value → Checked TypedExpression
negation_of line x = check (is_bool x.ty) (Mismatch line) >>= λ _. has_type types.Bool (typed.negation x.tree)

abbrev pub binary_of : LineNo → BinOp → Value → Value → Checked TypedExpression
binary_of line o x y = found (answer_type o x.ty y.ty) (Mismatch line) >>= λ ty. has_type ty (typed.binary o x.tree y.tree)

abbrev pub both_of : LineNo → Value → Value → Checked TypedExpression
both_of line x y = check (is_bool x.ty && is_bool y.ty) (Mismatch line) >>= λ _. has_type types.Bool (typed.both x.tree y.tree)

abbrev pub either_of : LineNo → Value → Value → Checked TypedExpression
either_of line x y = check (is_bool x.ty && is_bool y.ty) (Mismatch line) >>= λ _. has_type types.Bool (typed.either x.tree y.tree)

abbrev pub choice_of : LineNo → (test value other : Value) → Checked TypedExpression
choice_of line test x y =
    check (is_bool test.ty && same_type x.ty y.ty) (Mismatch line) >>= λ _. has_type x.ty (typed.choice test.tree x.tree y.tree)
