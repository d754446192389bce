use Rattle.std.proofs.Common.{◌≡◌, map, take}
use Rattle.gp_locals.specs.code.UsableView.{usable_view}
use Rattle.gp_locals.proofs.usable.are_equal.Given as goal

-- those so far are the same
abbrev pub invariant-loop-i : goal.invariant-loop-i
invariant-loop-i l = map usable_view (take l.i l.usable) ≡ map usable_view (take l.i l.others)
