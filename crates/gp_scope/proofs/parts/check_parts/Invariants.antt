use Rattle.std.proofs.Common.{◌≡◌, drop}
use Rattle.gp_tree.specs.Program.{program_items}
use Rattle.gp_scope.specs.Parts as spec
use Rattle.gp_scope.proofs.parts.check_parts.Given as goal

-- what is left decides
abbrev pub invariant-loop-item : goal.invariant-loop-item
invariant-loop-item l =
    spec.parts_fault (program_items l.names.items.now) (program_items (drop l.item-index l.names.items.now))
    ≡ spec.parts_fault (program_items l.names.items.now) (program_items l.names.items.now)
