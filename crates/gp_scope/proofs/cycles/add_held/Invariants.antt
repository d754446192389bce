use Rattle.std.proofs.Common.{◌≡◌, ℕ, List, ◌||◌, map, drop}
use Rattle.gp_scope.specs.Tables.{texts_of}
use Rattle.gp_tree.specs.Program.{field_definition}
use Rattle.gp_scope.specs.Checks.{is_among}
use Rattle.gp_scope.specs.Cycles as spec
use Rattle.gp_scope.proofs.cycles.add_held.Given as goal

-- a name is in the list, or in what is left
abbrev pub invariant-loop-field : goal.invariant-loop-field
invariant-loop-field l = (q : List ℕ) →
    (is_among q (texts_of l.held.items) || spec.fields_mention (map field_definition (drop l.field-index l.fields)) q)
    ≡ (is_among q (texts_of l.initial.held.items) || spec.fields_mention (map field_definition l.fields) q)
