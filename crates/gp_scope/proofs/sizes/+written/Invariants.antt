use Rattle.std.proofs.Common.{◌≡◌, ◌≤◌, ◌+◌, min, drop}
use Rattle.gp_tree.specs.TypeExpression.{type_expressions, parameter_types}
use Rattle.gp_scope.specs.code.Levels.{total_by, params_total}
use Rattle.gp_scope.specs.Tables.{value_in}
use Rattle.gp_scope.proofs.sizes.+written.Given as goal

-- the total and what is left are all
abbrev pub invariant-items_size-loop-item : goal.invariant-items_size-loop-item
invariant-items_size-loop-item l =
    (l.total ≤ 65)
    × (min (l.total + total_by (value_in l.names.structs l.sizes) (type_expressions (drop l.item-index l.items))) 65
    ≡ min (total_by (value_in l.names.structs l.sizes) (type_expressions l.items)) 65)

abbrev pub invariant-params_size-loop-param : goal.invariant-params_size-loop-param
invariant-params_size-loop-param l =
    (l.total ≤ 65)
    × (min (l.total + params_total (value_in l.names.structs l.sizes) (parameter_types (drop l.param-index l.params))) 65
    ≡ min (params_total (value_in l.names.structs l.sizes) (parameter_types l.params)) 65)
