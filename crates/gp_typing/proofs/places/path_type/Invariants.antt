use Rattle.std.proofs.Common.{◌≡◌, Some, drop}
use Rattle.gp_types.specs.View.{ty_view}
use Rattle.gp_typing.specs.Expressions as spec
use Rattle.gp_typing.proofs.places.path_type.Given as goal

-- along the fields that are left, the same as at first
abbrev pub invariant-loop-field : goal.invariant-loop-field
invariant-loop-field l = spec.path_type (Some (ty_view l.part)) (drop l.field-index l.fields) ≡ spec.path_type (Some (ty_view l.fn.ty)) l.fields
