use Rattle.std.proofs.Common.{◌≡◌, drop}
use Rattle.gp_tree.specs.Program.{program_items}
use Rattle.gp_tree.specs.TypeExpression.{type_expressions, parameter_types}
use Rattle.gp_scope.specs.Parts as spec
use Rattle.gp_scope.proofs.parts.+written.Given as goal

-- what is left decides
abbrev pub invariant-check_types-loop-item : goal.invariant-check_types-loop-item
invariant-check_types-loop-item l =
    spec.types_fault (program_items l.names.items.now) l.line (type_expressions (drop l.item-index l.items))
    ≡ spec.types_fault (program_items l.names.items.now) l.line (type_expressions l.items)

abbrev pub invariant-check_parameter_types-loop-taken : goal.invariant-check_parameter_types-loop-taken
invariant-check_parameter_types-loop-taken l =
    spec.parameter_types_fault (program_items l.names.items.now) l.line (parameter_types (drop l.taken-index l.params))
    ≡ spec.parameter_types_fault (program_items l.names.items.now) l.line (parameter_types l.params)
