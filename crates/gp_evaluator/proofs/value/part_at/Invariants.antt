use Rattle.std.proofs.Common.{◌≡◌, Some, drop}
use Rattle.gp_meaning.specs.Value as spec
use Rattle.gp_evaluator.specs.View.{value_view}
use Rattle.gp_evaluator.proofs.value.part_at.Given as goal

-- along the fields that are left, the same as at first
abbrev pub invariant-loop-field : goal.invariant-loop-field
invariant-loop-field l = spec.at_path (Some (value_view l.part)) (drop l.field-index l.path) ≡ spec.at_path (Some (value_view l.fn.value)) l.path
