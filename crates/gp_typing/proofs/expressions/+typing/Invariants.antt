use Rattle.std.proofs.Common.{◌≡◌, map, drop}
use Rattle.gp_tree.specs.Expression.{expressions}
use Rattle.gp_types.specs.View.{ty_view}
use Rattle.gp_typing.specs.code.ExpressionView.{values_in}
use Rattle.gp_typing.specs.View.{expression_view}
use Rattle.gp_typing.proofs.Rows.{values_before}
use Rattle.gp_typing.proofs.expressions.+typing.Given as goal

-- the values so far, before those of the expressions that are left
abbrev pub invariant-type_values-loop-i : goal.invariant-type_values-loop-i
invariant-type_values-loop-i l =
    values_in l.context (expressions (drop l.first l.exprs))
    ≡ values_before (map expression_view l.values.exprs.items) (map ty_view l.values.types.items) (values_in l.context (expressions (drop l.i l.exprs)))
