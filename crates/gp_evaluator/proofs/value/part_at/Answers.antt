use Rattle.std.proofs.Common.{◌∙◌, ap, Some}
use Rattle.gp_meaning.specs.Value as spec
use Rattle.gp_evaluator.specs.View.{value_view}
use Rattle.gp_evaluator.proofs.Paths.{path_stops}
use Rattle.gp_evaluator.proofs.value.part_at.Goals as goal

pub returns-in_err-part : goal.returns-in_err-part
returns-in_err-part c =
    rw c.from_residual.ensures
    (path_stops (value_view c.loop-field.part.now) c.args.path.now c.loop-field.field-index (spec.at_path (Some (value_view c.args.value.now)) c.args.path.now) c.field-item.result
    c.loop-field-test.true c.field-item.is (c.in_err-part.ensures ∙ ap (spec.field_of (value_view c.loop-field.part.now)) c.as_str.ensures) c.loop-field.invariant)
