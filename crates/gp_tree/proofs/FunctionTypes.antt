-- What a written function type is as plain data.
use Rattle.std.proofs.Common.{◌≡◌, Some, map, sym, ap, ◌∙◌}
use Rattle.std.specs.Rc.{rc_slice_items, rc_value}
use Rattle.std.specs.declared.alloc.Global.{Global}
use Rattle.std.specs.declared.rc.Rc.{Rc}
use Rattle.std.specs.declared.rc.RcSlice.{RcSlice}
use Rattle.gp_tree.specs.declared.type_expr.TypeExpr.{TypeExpr}
use Rattle.gp_tree.specs.declared.type_expr.FunParamExpr.{FunParamExpr}
use Rattle.gp_tree.specs.declared.type_expr.TypeExpr.TheFolds.{fold-roll-TypeExpr}
use Rattle.gp_tree.specs.declared.type_expr.TypeExpr.TheOpen.{TypeExpr-F}
use Rattle.gp_tree.specs.declared.type_expr.TypeExpr.TheVariants.{Callable, rolls-Callable}
use Rattle.gp_tree.specs.TypeExpression.{TypeExpression, ParameterType, type_expression, parameter_type, type_step, parameter_step, parameters_of, function_type, with_result}

pub answers : (ps : RcSlice FunParamExpr Global) (t : Rc TypeExpr Global) → type_expression (Callable ps (Some t)) ≡ function_type (parameters_of (map parameter_type (rc_slice_items ps))) (with_result (type_expression (rc_value t)))
answers ps t = ap type_expression (sym (rolls-Callable ps (Some t))) ∙ fold-roll-TypeExpr TypeExpression ParameterType type_step parameter_step (TypeExpr-F.Callable ps (Some t))
