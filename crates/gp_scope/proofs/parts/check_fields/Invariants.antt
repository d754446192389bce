use Rattle.std.proofs.Common.{◌≡◌, [], map, drop}
use Rattle.gp_tree.specs.Program.{program_items, field_definition}
use Rattle.gp_scope.specs.Parts as spec
use Rattle.gp_scope.specs.Tables.{texts}
use Rattle.gp_scope.proofs.parts.check_fields.Given as goal

-- the set has the names of the fields so far, and what is left decides
abbrev pub invariant-loop-field : goal.invariant-loop-field
invariant-loop-field l =
    spec.fields_fault (program_items l.names.items.now) (texts l.taken) (map field_definition (drop l.field-index l.fields))
    ≡ spec.fields_fault (program_items l.names.items.now) [] (map field_definition l.fields)
