use Rattle.std.proofs.Common.{◌≡◌, ◌+◌, ◌≤◌, drop, length}
use Rattle.gp_tree.specs.Program.{program_items}
use Rattle.gp_scope.specs.Definitions.{functions_in}
use Rattle.gp_scope.proofs.tables.function_count.Given as goal

-- those so far and those in what is left are all
abbrev pub invariant-loop-item : goal.invariant-loop-item
invariant-loop-item l =
    (l.count ≤ l.item-index) × (l.count + length (functions_in (program_items (drop l.item-index l.items))) ≡ length (functions_in (program_items l.items)))
