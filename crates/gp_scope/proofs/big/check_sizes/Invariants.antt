use Rattle.std.proofs.Common.{◌≡◌, drop}
use Rattle.gp_tree.specs.Program.{program_items}
use Rattle.gp_scope.specs.Sizes as spec
use Rattle.gp_scope.proofs.big.check_sizes.Given as goal

-- what is left decides
abbrev pub invariant-loop-item : goal.invariant-loop-item
invariant-loop-item l =
    spec.sizes_fault (program_items l.names.items.now) (program_items (drop l.item-index l.names.items.now))
    ≡ spec.sizes_fault (program_items l.names.items.now) (program_items l.names.items.now)
