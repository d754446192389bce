use Rattle.std.proofs.Common.{◌≡◌, map, drop}
use Rattle.gp_tree.specs.Form.{parameter}
use Rattle.gp_tree.specs.Program.{program_items}
use Rattle.gp_scope.specs.Sizes as spec
use Rattle.gp_scope.proofs.big.check_parameters.Given as goal

-- what is left decides
abbrev pub invariant-loop-param : goal.invariant-loop-param
invariant-loop-param l =
    spec.big_parameters_fault (program_items l.names.items.now) l.line (map parameter (drop l.param-index l.params))
    ≡ spec.big_parameters_fault (program_items l.names.items.now) l.line (map parameter l.params)
