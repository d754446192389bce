use Rattle.std.proofs.Common.{◌≡◌, ◌+◌, ◌*◌, map, take}
use Rattle.gp_tree.specs.Program.{field_definition}
use Rattle.gp_tree.specs.TypeExpression.{type_expression, type_expressions, parameter_type, parameter_types, result_type}
use Rattle.gp_types.specs.Size.{size, total_size, total_field_size, total_param_size, answer_size}
use Rattle.gp_types.specs.View.{ty_view, field_view, param_view}
use Rattle.gp_scope.specs.code.NamesOf.{whole}
use Rattle.gp_scope.specs.Spelled.{spelled_by, all_spelled_by, params_spelled_by, answer_spelled_by, fields_spelled_by, spelled_field, spelled_param}
use Rattle.gp_scope.proofs.types.+spell.Given as goal

-- each call spells a part of the type
abbrev pub decreases-spell : goal.decreases-spell
decreases-spell l = 3 * size (spelled_by (whole l.names.now) (type_expression l.ty.now)) + 1

abbrev pub decreases-spell_name : goal.decreases-spell_name
decreases-spell_name l = 3 * size (whole l.names.now l.name.now)

abbrev pub decreases-spell_items : goal.decreases-spell_items
decreases-spell_items l = 3 * total_size (all_spelled_by (whole l.names.now) (type_expressions l.items.now)) + 2

abbrev pub decreases-spell_fields : goal.decreases-spell_fields
decreases-spell_fields l = 3 * total_field_size (fields_spelled_by (whole l.names.now) (map field_definition l.fields.now)) + 2

abbrev pub decreases-spell_params : goal.decreases-spell_params
decreases-spell_params l = 3 * total_param_size (params_spelled_by (whole l.names.now) (parameter_types l.params.now)) + 2

abbrev pub decreases-spell_answer : goal.decreases-spell_answer
decreases-spell_answer l = 3 * answer_size (answer_spelled_by (whole l.names.now) (result_type l.answer.now)) + 2

abbrev pub invariant-spell_items-loop-item : goal.invariant-spell_items-loop-item
invariant-spell_items-loop-item l = map ty_view l.made.items ≡ map (λ t. spelled_by (whole l.names) (type_expression t)) (take l.item-index l.items)

abbrev pub invariant-spell_fields-loop-field : goal.invariant-spell_fields-loop-field
invariant-spell_fields-loop-field l = map field_view l.made.items ≡ map (λ f. spelled_field (whole l.names) (field_definition f)) (take l.field-index l.fields)

abbrev pub invariant-spell_params-loop-param : goal.invariant-spell_params-loop-param
invariant-spell_params-loop-param l = map param_view l.made.items ≡ map (λ p. spelled_param (whole l.names) (parameter_type p)) (take l.param-index l.params)
