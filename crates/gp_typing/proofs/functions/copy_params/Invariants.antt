use Rattle.std.proofs.Common.{◌≡◌, map, take}
use Rattle.gp_types.specs.Signature.{parameter_view}
use Rattle.gp_typing.proofs.functions.copy_params.Given as goal

abbrev pub invariant-loop-param : goal.invariant-loop-param
invariant-loop-param l = map parameter_view l.made ≡ map parameter_view (take l.param-index l.params)
