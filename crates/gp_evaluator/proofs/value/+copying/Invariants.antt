use Rattle.std.proofs.Common.{◌≡◌, map, take}
use Rattle.gp_evaluator.specs.View.{value_view, field_view}
use Rattle.gp_evaluator.proofs.value.+copying.Given as goal

abbrev pub invariant-copy_values-loop-value : goal.invariant-copy_values-loop-value
invariant-copy_values-loop-value l = map value_view l.made.items ≡ map value_view (take l.value-index l.values)

abbrev pub invariant-copy_fields-loop-field : goal.invariant-copy_fields-loop-field
invariant-copy_fields-loop-field l = map field_view l.made.items ≡ map field_view (take l.field-index l.fields)
