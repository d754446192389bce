use Rattle.std.proofs.Common.{◌≡◌, drop, map}
use Rattle.gp_base.specs.World.{World}
use Rattle.gp_meaning.specs.State as spec
use Rattle.gp_evaluator.specs.View.{value_view, variables_view, state}
use Rattle.gp_evaluator.proofs.variables.Variables.assign_parts.Given as goal

-- the parts that are left go to the places that are left
abbrev pub invariant-loop-i : goal.invariant-loop-i
invariant-loop-i l =
    (w : World)
    → spec.assign_each l.names (drop l.i l.places) (drop l.i (map value_view l.parts)) (state (variables_view l.self) w)
    ≡ spec.assign_each l.names l.places (map value_view l.parts) (state (variables_view l.fn.self) w)
