use Rattle.std.proofs.Common.{◌≡◌, ℕ, List}
use Rattle.gp_tree.specs.Program.{program_items}
use Rattle.gp_scope.specs.code.Levels.{level_size}
use Rattle.gp_scope.specs.Tables.{value_in}
use Rattle.gp_scope.proofs.sizes.struct_sizes.Given as goal

-- the sizes are those of as many levels as there were rounds
abbrev pub invariant-loop-round : goal.invariant-loop-round
invariant-loop-round l = (name : List ℕ) → value_in l.names.structs l.sizes.items name ≡ level_size l._round (program_items l.names.items.now) name
