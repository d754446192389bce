use Rattle.std.proofs.Common.{◌≡◌, [], drop}
use Rattle.gp_tree.specs.Program.{program_items}
use Rattle.gp_scope.specs.Definitions as spec
use Rattle.gp_scope.specs.Tables.{texts}
use Rattle.gp_scope.proofs.definitions.check_definitions.Given as goal

-- the set has the names of the definitions so far, and what is left decides
abbrev pub invariant-loop-item : goal.invariant-loop-item
invariant-loop-item l =
    spec.definitions_fault (program_items l.items) (texts l.taken) (program_items (drop l.item-index l.items))
    ≡ spec.definitions_fault (program_items l.items) [] (program_items l.items)
