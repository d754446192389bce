-- The data that values in memory are, and the types of expressions in a context in memory.
use Rattle.std.specs.Prelude.{ℕ, List, map, Some}
use Rattle.gp_locals.specs.Environment.{type_of}
use Rattle.gp_tree.specs.declared.place.Place.{Place}
use Rattle.gp_tree.specs.Expression.{Expression, Expressions}
use Rattle.gp_types.specs.Types.{Ty, tys_of}
use Rattle.gp_types.specs.View.{ty_view}
use Rattle.gp_typing.specs.declared.context.Context.{Context}
use Rattle.gp_typing.specs.declared.value.Value as declared
use Rattle.gp_typing.specs.declared.value.Values as declared_row
use Rattle.gp_typing.specs.Checks.{Checked}
use Rattle.gp_typing.specs.Expressions as spec
use Rattle.gp_typing.specs.Expressions.{Value, Values, typing, valued}
use Rattle.gp_scope.specs.ScopeView.{known_in}
use Rattle.gp_typing.specs.Typed.{TypedExpression, of_type}
use Rattle.gp_typing.specs.View.{kind_view, expressions_view}

abbrev pub value_view : declared.Value → Value
value_view v = record { tree = of_type (Some (ty_view v.ty)) (kind_view v.kind); ty = ty_view v.ty }

abbrev pub values_view : declared_row.Values → Values
values_view vs = record { trees = expressions_view vs.exprs.items; types = tys_of (map ty_view vs.types.items) }

-- an expression in this context
abbrev pub typed_in : Context → Expression → Checked TypedExpression
typed_in context x = typing (known_in context.scope.now) context.names.now context.environment.now context.line x

-- an expression in this context where a value is needed
abbrev pub valued_in : Context → Expression → Checked Value
valued_in context x = valued context.line (typed_in context x)

-- expressions in this context that all stand where values are needed
abbrev pub values_in : Context → Expressions → Checked Values
values_in context xs = spec.values_of (known_in context.scope.now) context.names.now context.environment.now context.line xs

-- the type of a name in this context
abbrev pub name_in : Context → List ℕ → Checked Ty
name_in context name =
    spec.named_type context.line (type_of context.names.now context.environment.now name) ((known_in context.scope.now).signature_of name)

-- the type of a place in this context
abbrev pub type_in : Context → Place → Checked Ty
type_in context place = spec.place_type (known_in context.scope.now) context.names.now context.environment.now context.line place
