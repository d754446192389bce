use Rattle.std.proofs.Common.{◌≡◌, map, option_map, drop}
use Rattle.gp_base.specs.World.{World}
use Rattle.gp_tree.specs.Expression.{expression}
use Rattle.gp_evaluator.specs.View.{value_view, variables_view, state}
use Rattle.gp_evaluator.proofs.Backs.{backs}
use Rattle.gp_evaluator.proofs.calls.put_back_each.Given as goal

-- the final values that are left go to the arguments that are left
abbrev pub invariant-loop-i : goal.invariant-loop-i
invariant-loop-i l =
    (w : World)
    → backs l.names (drop l.i (map expression l.arguments)) (drop l.i (map (option_map value_view) l.finals)) (state (variables_view l.variables) w)
    ≡ backs l.names (map expression l.arguments) (map (option_map value_view) l.finals) (state (variables_view l.fn.variables) w)
