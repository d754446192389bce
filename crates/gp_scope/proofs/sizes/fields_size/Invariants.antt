use Rattle.std.proofs.Common.{◌≡◌, ◌≤◌, ◌+◌, map, min, drop}
use Rattle.gp_tree.specs.Program.{field_definition}
use Rattle.gp_scope.specs.code.Levels.{fields_total}
use Rattle.gp_scope.specs.Tables.{value_in}
use Rattle.gp_scope.proofs.sizes.fields_size.Given as goal

-- the total and what is left are all
abbrev pub invariant-loop-field : goal.invariant-loop-field
invariant-loop-field l =
    (l.total ≤ 65)
    × (min (l.total + fields_total (value_in l.names.structs l.sizes) (map field_definition (drop l.field-index l.fields))) 65
    ≡ min (fields_total (value_in l.names.structs l.sizes) (map field_definition l.fields)) 65)
