use Rattle.std.proofs.Common.{◌≡◌, map, take}
use Rattle.gp_types.specs.View.{ty_view, param_view}
use Rattle.gp_typing.proofs.calls.value_types.Given as goal

abbrev pub invariant-loop-param : goal.invariant-loop-param
invariant-loop-param l = map ty_view l.made.items ≡ map (λ p. (param_view p).ty) (take l.param-index l.params)
