-- Tables of sizes that say which types are above the limit.
use Rattle.std.specs.Prelude.{◌≡◌, ℕ, List, nat_lt}
use Rattle.gp_tree.specs.Program.{program_items}
use Rattle.gp_tree.specs.TypeExpression.{TypeExpression}
use Rattle.gp_types.specs.Size.{size}
use Rattle.gp_scope.specs.declared.names.Names.{Names}
use Rattle.gp_scope.specs.code.Levels.{size_by}
use Rattle.gp_scope.specs.Spelled.{spelled}
use Rattle.gp_scope.specs.Tables.{value_in}

-- by the sizes of the structs, a written type is above the limit exactly where the type that it spells is
abbrev pub AreSizes : Names → List ℕ → Type 0
AreSizes names sizes =
    (t : TypeExpression) → nat_lt 64 (size_by (value_in names.structs sizes) t) ≡ nat_lt 64 (size (spelled (program_items names.items.now) t))
