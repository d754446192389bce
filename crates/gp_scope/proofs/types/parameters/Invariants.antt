use Rattle.std.proofs.Common.{◌≡◌, map, take}
use Rattle.gp_tree.specs.Form.{parameter}
use Rattle.gp_tree.specs.Program.{program_items}
use Rattle.gp_types.specs.Signature.{parameter_view}
use Rattle.gp_scope.specs.Spelled.{parameter_of}
use Rattle.gp_scope.proofs.types.parameters.Given as goal

abbrev pub invariant-loop-param : goal.invariant-loop-param
invariant-loop-param l = map parameter_view l.made ≡ map (parameter_of (program_items l.names.items.now)) (map parameter (take l.param-index l.params))
