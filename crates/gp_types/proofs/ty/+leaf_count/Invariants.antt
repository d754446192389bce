use Rattle.std.proofs.Common.{◌≡◌, ◌<◌, ◌+◌, ◌-◌, ◌^◌, length, map, min, drop}
use Rattle.gp_types.specs.Types.{fields_of}
use Rattle.gp_types.specs.View.{field_view}
use Rattle.gp_types.specs.Leaves.{field_leaves}
use Rattle.gp_types.proofs.ty.+leaf_count.Given as goal

abbrev pub invariant-field_leaf_count-loop-field : goal.invariant-field_leaf_count-loop-field
invariant-field_leaf_count-loop-field l =
    (l.total < 2 ^ 64)
    × (min (l.total + length (field_leaves (fields_of (map field_view (drop l.field-index l.fields))))) (2 ^ 64 - 1)
    ≡ min (length (field_leaves (fields_of (map field_view l.fields)))) (2 ^ 64 - 1))
