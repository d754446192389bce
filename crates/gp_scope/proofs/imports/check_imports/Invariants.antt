use Rattle.std.proofs.Common.{◌≡◌, drop}
use Rattle.gp_tree.specs.Program.{program_items}
use Rattle.gp_scope.specs.Definitions as spec
use Rattle.gp_scope.proofs.imports.check_imports.Given as goal

-- what is left decides
abbrev pub invariant-loop-item : goal.invariant-loop-item
invariant-loop-item l = spec.imports_fault (program_items (drop l.item-index l.items)) ≡ spec.imports_fault (program_items l.items)
