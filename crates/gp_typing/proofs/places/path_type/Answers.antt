use Rattle.std.proofs.Common.{◌∙◌, ap, Some}
use Rattle.gp_types.specs.View.{ty_view}
use Rattle.gp_typing.specs.Expressions as spec
use Rattle.gp_typing.proofs.Rows.{path-stops}
use Rattle.gp_typing.proofs.places.path_type.Goals as goal

pub returns-in_err-part : goal.returns-in_err-part
returns-in_err-part c =
    rw c.from_residual.ensures
    (path-stops (ty_view c.loop-field.part.now) c.args.fields.now c.loop-field.field-index (spec.path_type (Some (ty_view c.args.ty.now)) c.args.fields.now) c.field-item.result
    c.loop-field-test.true c.field-item.is (c.in_err-part.ensures ∙ ap (spec.part_type (ty_view c.loop-field.part.now)) c.as_str.ensures) c.loop-field.invariant)
