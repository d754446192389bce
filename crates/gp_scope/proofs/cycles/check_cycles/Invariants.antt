use Rattle.gp_tree.specs.Program.{program_items}
use Rattle.std.proofs.Common.{drop}
use Rattle.gp_scope.specs.Checks.{Found}
use Rattle.gp_scope.specs.Definitions.{structs_in}
use Rattle.gp_scope.specs.FirstFault.{FindsCycle}
use Rattle.gp_scope.proofs.cycles.check_cycles.Given as goal

-- what is left decides
abbrev pub invariant-loop-item : goal.invariant-loop-item
invariant-loop-item l = (next found : Found) →
    FindsCycle (program_items l.names.items.now) (structs_in (program_items (drop l.item-index l.names.items.now))) next found
    → FindsCycle (program_items l.names.items.now) (structs_in (program_items l.names.items.now)) next found
