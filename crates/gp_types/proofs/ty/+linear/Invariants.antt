use Rattle.std.proofs.Common.{◌≡◌, map, drop}
use Rattle.gp_types.specs.Types.{tys_of, fields_of}
use Rattle.gp_types.specs.View.{ty_view, field_view}
use Rattle.gp_types.specs.Linear as spec
use Rattle.gp_types.proofs.ty.+linear.Given as goal

-- what is left decides
abbrev pub invariant-has_linear-loop-item : goal.invariant-has_linear-loop-item
invariant-has_linear-loop-item l =
    spec.has_linear (tys_of (map ty_view (drop l.item-index l.items))) ≡ spec.has_linear (tys_of (map ty_view l.items))

abbrev pub invariant-has_linear_field-loop-field : goal.invariant-has_linear_field-loop-field
invariant-has_linear_field-loop-field l =
    spec.has_linear_field (fields_of (map field_view (drop l.field-index l.fields))) ≡ spec.has_linear_field (fields_of (map field_view l.fields))
