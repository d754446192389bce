use Rattle.std.proofs.Common.{◌≡◌, map, take}
use Rattle.gp_locals.specs.code.UsableView.{usable_view}
use Rattle.gp_locals.proofs.usable.copy_usable.Given as goal

abbrev pub invariant-loop-name : goal.invariant-loop-name
invariant-loop-name l = map usable_view l.made.items ≡ map usable_view (take l.name-index l.usable)
