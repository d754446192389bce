use Rattle.std.proofs.Common.{◌≡◌, [], map, drop}
use Rattle.gp_locals.specs.Locals.{with_names}
use Rattle.gp_locals.proofs.Names.{parameter_name}
use Rattle.gp_locals.proofs.locals.locals_of.Given as goal

-- with the parameters that are left, those of all
abbrev pub invariant-loop-param : goal.invariant-loop-param
invariant-loop-param l = with_names l.places (map parameter_name (drop l.param-index l.params)) ≡ with_names [] (map parameter_name l.params)
