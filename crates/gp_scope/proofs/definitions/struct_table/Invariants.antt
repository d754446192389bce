use Rattle.std.proofs.Common.{◌≡◌, ℕ, List, drop}
use Rattle.std.specs.Option.{option_or}
use Rattle.gp_tree.specs.Program.{program_items}
use Rattle.gp_scope.specs.Definitions as spec
use Rattle.gp_scope.specs.Tables.{struct_at}
use Rattle.gp_scope.proofs.definitions.struct_table.Given as goal

-- a struct is in the table, or the first of its name in what is left
abbrev pub invariant-loop-item : goal.invariant-loop-item
invariant-loop-item l =
    (name : List ℕ) → option_or (struct_at l.structs name) (spec.struct_named (program_items (drop l.item-index l.items)) name) ≡ spec.struct_named (program_items l.items) name
