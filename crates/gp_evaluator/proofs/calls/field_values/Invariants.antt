use Rattle.std.proofs.Common.{◌≡◌, map, drop}
use Rattle.gp_types.specs.Types.{fields_of}
use Rattle.gp_types.specs.View as types_view
use Rattle.gp_meaning.specs.Calls as spec
use Rattle.gp_evaluator.specs.View.{value_view, field_view}
use Rattle.gp_evaluator.proofs.CallRows.{prefixed}
use Rattle.gp_evaluator.proofs.calls.field_values.Given as goal

-- the fields so far, before those that are left
abbrev pub invariant-loop-i : goal.invariant-loop-i
invariant-loop-i l =
    prefixed (map field_view l.made.items) (spec.field_values (fields_of (drop l.i (map types_view.field_view l.fields))) (drop l.i (map value_view l.values)))
    ≡ spec.field_values (fields_of (map types_view.field_view l.fields)) (map value_view l.values)
