use Rattle.std.proofs.Common.{◌≡◌, map, drop}
use Rattle.gp_types.specs.Signature.{parameter_view, parameter_names}
use Rattle.gp_meaning.specs.State.{no_variables, set_each}
use Rattle.gp_evaluator.specs.View.{value_view, variables_view}
use Rattle.gp_evaluator.proofs.functions.begin.Given as goal

-- the parameters that are left get the values that are left
abbrev pub invariant-loop-i : goal.invariant-loop-i
invariant-loop-i l =
    set_each l.names (variables_view l.variables) (parameter_names (drop l.i (map parameter_view l.params))) (drop l.i (map value_view l.values))
    ≡ set_each l.names (no_variables l.names) (parameter_names (map parameter_view l.params)) (map value_view l.values)
