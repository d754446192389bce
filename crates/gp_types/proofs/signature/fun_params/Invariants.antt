use Rattle.std.proofs.Common.{◌≡◌, map, take}
use Rattle.gp_types.specs.Signature.{fun_param, parameter_view}
use Rattle.gp_types.specs.View.{param_view}
use Rattle.gp_types.proofs.signature.fun_params.Given as goal

abbrev pub invariant-loop-param : goal.invariant-loop-param
invariant-loop-param l = map param_view l.made.items ≡ map (λ p. fun_param (parameter_view p)) (take l.param-index l.params)
