use Rattle.std.proofs.Common.{◌≡◌, ◌<◌, ◌+◌, ◌-◌, ◌^◌, map, min, drop}
use Rattle.gp_types.specs.Types.{tys_of, fields_of, params_of}
use Rattle.gp_types.specs.View.{ty_view, field_view, param_view}
use Rattle.gp_types.specs.Size as sizes
use Rattle.gp_types.proofs.ty.+size.Given as goal

abbrev pub invariant-total_field_size-loop-field : goal.invariant-total_field_size-loop-field
invariant-total_field_size-loop-field l =
    (l.total < 2 ^ 64)
    × (min (l.total + sizes.total_field_size (fields_of (map field_view (drop l.field-index l.fields)))) (2 ^ 64 - 1)
    ≡ min (sizes.total_field_size (fields_of (map field_view l.fields))) (2 ^ 64 - 1))

abbrev pub invariant-total_size-loop-item : goal.invariant-total_size-loop-item
invariant-total_size-loop-item l =
    (l.total < 2 ^ 64)
    × (min (l.total + sizes.total_size (tys_of (map ty_view (drop l.item-index l.items)))) (2 ^ 64 - 1)
    ≡ min (sizes.total_size (tys_of (map ty_view l.items))) (2 ^ 64 - 1))

abbrev pub invariant-total_param_size-loop-param : goal.invariant-total_param_size-loop-param
invariant-total_param_size-loop-param l =
    (l.total < 2 ^ 64)
    × (min (l.total + sizes.total_param_size (params_of (map param_view (drop l.param-index l.params)))) (2 ^ 64 - 1)
    ≡ min (sizes.total_param_size (params_of (map param_view l.params))) (2 ^ 64 - 1))
