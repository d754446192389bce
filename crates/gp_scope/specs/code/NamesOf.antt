-- The tables of a program's names in memory.
use Rattle.std.specs.Prelude.{ℕ, List, length}
use Rattle.gp_tree.specs.Program.{program_items}
use Rattle.gp_types.specs.Types.{Ty}
use Rattle.gp_scope.specs.Spelled.{opened, StructsHaveFields}
use Rattle.gp_scope.specs.declared.names.Names.{Names}
use Rattle.gp_scope.specs.Tables.{HasImports, HasStructs}

-- the tables are those of the items
abbrev pub AreNames : Names → Type 0
AreNames names = HasImports (program_items names.items.now) names.imported × HasStructs (program_items names.items.now) names.structs

-- the tables are those of the items, and each struct's type has its fields with their types
abbrev pub AreWhole : Names → Type 0
AreWhole names = AreNames names × StructsHaveFields (program_items names.items.now)

-- the type of a name
abbrev pub whole : Names → List ℕ → Ty
whole names = opened (length (program_items names.items.now)) (program_items names.items.now)
