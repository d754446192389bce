use Rattle.std.proofs.Common.{◌≡◌, map, drop}
use Rattle.gp_types.specs.Types.{fields_of}
use Rattle.gp_types.specs.View.{field_view}
use Rattle.gp_typing.specs.Expressions as spec
use Rattle.gp_typing.proofs.places.field_type.Given as goal

-- the fields that are left decide
abbrev pub invariant-loop-field : goal.invariant-loop-field
invariant-loop-field l =
    spec.field_type (fields_of (map field_view (drop l.field-index l.fields))) l.name
    ≡ spec.field_type (fields_of (map field_view l.fields)) l.name
