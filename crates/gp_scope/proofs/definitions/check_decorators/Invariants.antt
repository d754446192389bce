use Rattle.std.proofs.Common.{◌≡◌, drop}
use Rattle.gp_tree.specs.Program.{program_items}
use Rattle.gp_scope.specs.Definitions as spec
use Rattle.gp_scope.proofs.definitions.check_decorators.Given as goal

-- what is left decides
abbrev pub invariant-loop-item : goal.invariant-loop-item
invariant-loop-item l = spec.first_decorator_fault (program_items (drop l.item-index l.items)) ≡ spec.first_decorator_fault (program_items l.items)
