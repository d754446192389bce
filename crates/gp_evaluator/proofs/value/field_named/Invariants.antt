use Rattle.std.proofs.Common.{◌≡◌, map, drop}
use Rattle.gp_meaning.specs.Value as spec
use Rattle.gp_evaluator.specs.View.{field_view}
use Rattle.gp_evaluator.proofs.value.field_named.Given as goal

-- the fields that are left decide
abbrev pub invariant-loop-field : goal.invariant-loop-field
invariant-loop-field l =
    spec.field_named (spec.fields_of (map field_view (drop l.field-index l.fields))) l.name
    ≡ spec.field_named (spec.fields_of (map field_view l.fields)) l.name
