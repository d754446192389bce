use Rattle.std.proofs.Common.{◌≡◌, map, drop}
use Rattle.gp_locals.specs.code.Usable as spec
use Rattle.gp_locals.specs.code.UsableView.{usable_view}
use Rattle.gp_locals.proofs.usable.type_among.Given as goal

-- those that are left decide
abbrev pub invariant-loop-name : goal.invariant-loop-name
invariant-loop-name l = spec.type_among l.position (map usable_view (drop l.name-index l.usable)) ≡ spec.type_among l.position (map usable_view l.usable)
