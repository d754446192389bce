use Rattle.std.proofs.Common.{◌≡◌, ◌<◌, ◌+◌, ◌-◌, ◌^◌, min, map, drop}
use Rattle.gp_locals.specs.code.Usable as spec
use Rattle.gp_locals.specs.code.UsableView.{usable_view}
use Rattle.gp_locals.proofs.usable.sizes.Given as goal

-- with the sizes that are left, the whole
abbrev pub invariant-loop-name : goal.invariant-loop-name
invariant-loop-name l =
    (l.total < 2 ^ 64)
    × (min (l.total + spec.sizes (map usable_view (drop l.name-index l.usable))) (2 ^ 64 - 1) ≡ min (spec.sizes (map usable_view l.usable)) (2 ^ 64 - 1))
