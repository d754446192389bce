use Rattle.std.proofs.Common.{◌≡◌, drop, nat_le}
use Rattle.gp_tree.specs.TypeExpression.{type_expressions, parameter_types}
use Rattle.gp_scope.specs.code.EachName.{each_name_of, each_name_taken}
use Rattle.gp_scope.specs.Tables.{value_in}
use Rattle.gp_scope.proofs.cycles.+within.Given as goal

-- what is left decides
abbrev pub invariant-are_within-loop-item : goal.invariant-are_within-loop-item
invariant-are_within-loop-item l =
    each_name_of (λ name. nat_le (value_in l.names.structs l.numbers name) l.limit) (type_expressions (drop l.item-index l.items))
    ≡ each_name_of (λ name. nat_le (value_in l.names.structs l.numbers name) l.limit) (type_expressions l.items)

abbrev pub invariant-are_params_within-loop-param : goal.invariant-are_params_within-loop-param
invariant-are_params_within-loop-param l =
    each_name_taken (λ name. nat_le (value_in l.names.structs l.numbers name) l.limit) (parameter_types (drop l.param-index l.params))
    ≡ each_name_taken (λ name. nat_le (value_in l.names.structs l.numbers name) l.limit) (parameter_types l.params)
