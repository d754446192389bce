use Rattle.std.proofs.Common.{◌≡◌, ◌++◌, map, drop, option_map}
use Rattle.gp_types.specs.Signature.{parameter_view}
use Rattle.gp_meaning.specs.Meaning.{finals_of}
use Rattle.gp_evaluator.specs.View.{value_view, variables_view}
use Rattle.gp_evaluator.proofs.functions.final_values.Given as goal

-- the final values so far stand before those of the parameters that are left
abbrev pub invariant-loop-param : goal.invariant-loop-param
invariant-loop-param l =
    finals_of l.names (map parameter_view l.params) (variables_view l.variables)
    ≡ option_map (λ fs. map (option_map value_view) l.finals.items ++ fs) (finals_of l.names (map parameter_view (drop l.param-index l.params)) (variables_view l.variables))
