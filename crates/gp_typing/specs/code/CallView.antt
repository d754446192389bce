-- The data that arguments in memory are, calls in a context in memory, and the tag of a call by itself.
use Rattle.std.specs.Prelude.{ℕ, Bool, true, List, map, Option, Some, None, Ok}
use Rattle.gp_base.specs.declared.name.LineNo.{LineNo}
use Rattle.gp_tree.specs.Expression as expr
use Rattle.gp_tree.specs.Expression.{Expressions}
use Rattle.gp_types.specs.Types as types
use Rattle.gp_types.specs.Types.{tys_of}
use Rattle.gp_types.specs.View.{ty_view}
use Rattle.gp_types.specs.declared.ty.Ty as declared_ty
use Rattle.gp_locals.specs.Callee.{Callee, outside, takes_tag}
use Rattle.gp_locals.specs.Environment.{type_of}
use Rattle.gp_locals.specs.Tag.{is_tag}
use Rattle.gp_typing.specs.declared.context.Context.{Context}
use Rattle.gp_typing.specs.declared.fault.TypeFault.TheVariants.{Mismatch}
use Rattle.gp_typing.specs.declared.typed.TypedExpr as declared_expr
use Rattle.gp_typing.specs.declared.value.Values as declared_row
use Rattle.gp_typing.specs.Checks.{Checked, ◌>>=◌, check}
use Rattle.gp_typing.specs.Expressions as spec
use Rattle.gp_typing.specs.Expressions.{Arguments, arguments_of, called}
use Rattle.gp_typing.specs.code.ExpressionView.{values_view}
use Rattle.gp_scope.specs.ScopeView.{known_in}
use Rattle.gp_typing.specs.Typed.{TypedExpression, TypedExpressions}
use Rattle.gp_typing.specs.View.{expressions_view}

-- what a call of this name calls in this context
abbrev pub callee_in : Context → List ℕ → Checked Callee
callee_in context name =
    spec.callee_at context.line (type_of context.names.now context.environment.now name) (outside (known_in context.scope.now) name)

abbrev pub arguments_view : Option (List ℕ) → declared_row.Values → Arguments
arguments_view tag values = record { tag = tag; values = values_view values }

-- the number of arguments with this tag and these types
abbrev pub count_with : Option (List ℕ) → List declared_ty.Ty → ℕ
count_with tag tys = spec.argument_count (record { tag = tag; values = record { trees = spec.no_values.trees; types = tys_of (map ty_view tys) } })

-- whether arguments with this tag and these types fit
abbrev pub do_fit : Callee → Option (List ℕ) → List declared_ty.Ty → Bool
do_fit callee tag tys = spec.arguments_fit callee (record { tag = tag; values = record { trees = spec.no_values.trees; types = tys_of (map ty_view tys) } })

-- the tag, where there is one, before these
abbrev pub trees_with : Option (List ℕ) → List declared_expr.TypedExpr → TypedExpressions
trees_with tag exprs = spec.argument_trees (record { tag = tag; values = record { trees = expressions_view exprs; types = types.none } })

-- the tag of a call that takes one: its first argument, where that is a string
abbrev pub tag_of : LineNo → (tagged : Bool) → Expressions → Checked (Option (List ℕ))
tag_of line true (expr.with_expression (expr.text t) es) = check (is_tag t) (Mismatch line) >>= λ _. Ok (Some t)
tag_of line tagged es = Ok None

-- a call of this name with these arguments in this context
abbrev pub call_in : Context → List ℕ → Expressions → Checked TypedExpression
call_in context name es =
    callee_in context name
    >>= λ callee. arguments_of (known_in context.scope.now) context.names.now context.environment.now context.line (takes_tag callee) es
    >>= λ arguments. called context.line name callee arguments
