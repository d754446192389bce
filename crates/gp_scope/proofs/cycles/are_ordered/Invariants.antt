use Rattle.std.proofs.Common.{◌≡◌, drop}
use Rattle.std.specs.List.{list_all}
use Rattle.gp_tree.specs.Program.{program_items}
use Rattle.gp_scope.specs.Definitions.{structs_in}
use Rattle.gp_scope.specs.code.Components.{held_within}
use Rattle.gp_scope.specs.Tables.{value_in}
use Rattle.gp_scope.proofs.cycles.are_ordered.Given as goal

-- what is left decides
abbrev pub invariant-loop-item : goal.invariant-loop-item
invariant-loop-item l =
    list_all (λ s. held_within (program_items l.names.items.now) (value_in l.names.structs l.numbers) (value_in l.names.structs l.numbers s.name) s.name) (structs_in (program_items (drop l.item-index l.names.items.now)))
    ≡ list_all (λ s. held_within (program_items l.names.items.now) (value_in l.names.structs l.numbers) (value_in l.names.structs l.numbers s.name) s.name) (structs_in (program_items l.names.items.now))
