use Rattle.std.proofs.Common.{◌≡◌, drop, map, nat_le}
use Rattle.gp_tree.specs.Program.{field_definition}
use Rattle.gp_scope.specs.code.EachName.{each_field_name}
use Rattle.gp_scope.specs.Tables.{value_in}
use Rattle.gp_scope.proofs.cycles.are_fields_within.Given as goal

-- what is left decides
abbrev pub invariant-loop-field : goal.invariant-loop-field
invariant-loop-field l =
    each_field_name (λ name. nat_le (value_in l.names.structs l.numbers name) l.limit) (map field_definition (drop l.field-index l.fields))
    ≡ each_field_name (λ name. nat_le (value_in l.names.structs l.numbers name) l.limit) (map field_definition l.fields)
