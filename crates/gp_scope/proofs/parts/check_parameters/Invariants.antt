use Rattle.std.proofs.Common.{◌≡◌, [], map, drop}
use Rattle.gp_tree.specs.Form.{parameter}
use Rattle.gp_tree.specs.Program.{program_items}
use Rattle.gp_scope.specs.Parts as spec
use Rattle.gp_scope.specs.Tables.{texts}
use Rattle.gp_scope.proofs.parts.check_parameters.Given as goal

-- the set has the names of the parameters so far, and what is left decides
abbrev pub invariant-loop-param : goal.invariant-loop-param
invariant-loop-param l =
    spec.parameters_fault (program_items l.names.items.now) l.line (texts l.taken) (map parameter (drop l.param-index l.params))
    ≡ spec.parameters_fault (program_items l.names.items.now) l.line [] (map parameter l.params)
