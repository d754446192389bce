use Rattle.std.proofs.Common.{◌≡◌, ◌≤◌, ◌+◌, map, min, drop}
use Rattle.gp_types.specs.Signature.{function_params, parameter_view}
use Rattle.gp_types.specs.Size as sizes
use Rattle.gp_types.proofs.signature.parameters_size.Given as goal

-- the total is within the limit, and with what is left it is all
abbrev pub invariant-loop-param : goal.invariant-loop-param
invariant-loop-param l =
    (l.total ≤ 64)
    × (min (l.total + sizes.total_param_size (function_params (map parameter_view (drop l.param-index l.params)))) 65
    ≡ min (sizes.total_param_size (function_params (map parameter_view l.params))) 65)
