use Rattle.std.proofs.Common.{◌≡◌, ℕ, List, ◌||◌, drop}
use Rattle.gp_tree.specs.Program.{program_items}
use Rattle.gp_scope.specs.Definitions as spec
use Rattle.gp_scope.specs.Tables.{has_name}
use Rattle.gp_scope.proofs.imports.imported_names.Given as goal

-- a name of the program's imports is in the set, or in what is left
abbrev pub invariant-loop-item : goal.invariant-loop-item
invariant-loop-item l = (name : List ℕ) → (spec.imports (program_items (drop l.item-index l.items)) name || has_name l.imported name) ≡ spec.imports (program_items l.items) name
