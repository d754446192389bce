use Rattle.std.proofs.Common.{◌≡◌, ◌+◌, map, drop}
use Rattle.gp_locals.specs.code.Usable as spec
use Rattle.gp_locals.specs.code.UsableView.{usable_view}
use Rattle.gp_locals.proofs.usable.count_below.Given as goal

-- with those that are left, the whole
abbrev pub invariant-loop-i : goal.invariant-loop-i
invariant-loop-i l = l.i + spec.count_below l.position (map usable_view (drop l.i l.usable)) ≡ spec.count_below l.position (map usable_view l.usable)
