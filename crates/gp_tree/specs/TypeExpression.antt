-- Written types as plain data, and the data that a written type in memory is.
use Rattle.std.specs.Prelude.{ℕ, Bool, List, [], ◌∷◌, map, Option, Some, None, option_map}
use Rattle.std.specs.Rc.{rc_slice_items, rc_value}
use Rattle.std.specs.declared.alloc.Global.{Global}
use Rattle.std.specs.declared.rc.Rc.{Rc}
use Rattle.gp_tree.specs.declared.type_expr.TypeExpr as declared
use Rattle.gp_tree.specs.declared.type_expr.FunParamExpr as declared_parameter
use Rattle.gp_tree.specs.declared.type_expr.TypeExpr.{TypeExpr}
use Rattle.gp_tree.specs.declared.type_expr.TypeExpr.TheOpen.{TypeExpr-F, FunParamExpr-F}

mutual
  pub data TypeExpression : Type 0 where
    named_type : List ℕ → TypeExpression
    tuple_type : TypeExpressions → TypeExpression
    function_type : ParameterTypes → ResultType → TypeExpression

  pub data TypeExpressions : Type 0 where
    no_types : TypeExpressions
    with_type : TypeExpression → TypeExpressions → TypeExpressions

  -- the parameters of a function type in order, each with whether it is marked `@owned`
  pub data ParameterTypes : Type 0 where
    no_parameters : ParameterTypes
    with_parameter : TypeExpression → (owned : Bool) → ParameterTypes → ParameterTypes

  -- what a function type answers: nothing, or values of a type
  pub data ResultType : Type 0 where
    no_result : ResultType
    with_result : TypeExpression → ResultType

-- a parameter of a function type by itself
pub record ParameterType : Type 0 where
  pub ty : TypeExpression
  pub owned : Bool

abbrev pub types_of : List TypeExpression → TypeExpressions
types_of [] = no_types
types_of (t ∷ ts) = with_type t (types_of ts)

abbrev pub parameters_of : List ParameterType → ParameterTypes
parameters_of [] = no_parameters
parameters_of (p ∷ ps) = with_parameter p.ty p.owned (parameters_of ps)

abbrev pub result_of : Option TypeExpression → ResultType
result_of None = no_result
result_of (Some t) = with_result t

-- one level, with each type inside already seen as plain data
abbrev pub type_step : TypeExpr-F TypeExpression ParameterType → TypeExpression
type_step (TypeExpr-F.Named name) = named_type name
type_step (TypeExpr-F.Tuple ts) = tuple_type (types_of (rc_slice_items ts))
type_step (TypeExpr-F.Callable ps t) = function_type (parameters_of (rc_slice_items ps)) (result_of (option_map rc_value t))

abbrev pub parameter_step : FunParamExpr-F TypeExpression ParameterType → ParameterType
parameter_step p = record { ty = p.ty; owned = p.owned }

-- a written type in memory as plain data
abbrev pub type_expression : TypeExpr → TypeExpression
type_expression = declared.fold-TypeExpr TypeExpression ParameterType type_step parameter_step

abbrev pub parameter_type : declared_parameter.FunParamExpr → ParameterType
parameter_type = declared_parameter.fold-FunParamExpr TypeExpression ParameterType type_step parameter_step

abbrev pub type_expressions : List TypeExpr → TypeExpressions
type_expressions ts = types_of (map type_expression ts)

abbrev pub parameter_types : List declared_parameter.FunParamExpr → ParameterTypes
parameter_types ps = parameters_of (map parameter_type ps)

abbrev pub result_type : Option (Rc TypeExpr Global) → ResultType
result_type t = result_of (option_map type_expression (option_map rc_value t))

abbrev pub maybe_type : Option TypeExpr → Option TypeExpression
maybe_type None = None
maybe_type (Some t) = Some (type_expression t)
