use Rattle.std.proofs.Common.{◌≡◌, map}
use Rattle.gp_meaning.specs.Value as spec
use Rattle.gp_evaluator.specs.View.{field_view}
use Rattle.gp_evaluator.proofs.Paths.{place_from}
use Rattle.gp_evaluator.proofs.value.place_named.Given as goal

-- the place among the fields that are left is that among all
abbrev pub invariant-loop-i : goal.invariant-loop-i
invariant-loop-i l = place_from l.i l.fields l.name ≡ spec.place_named (map field_view l.fields) l.name
