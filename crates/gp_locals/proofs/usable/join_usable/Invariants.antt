use Rattle.std.proofs.Common.{◌≡◌, ◌++◌, map, drop, filter}
use Rattle.gp_locals.specs.code.Usable as spec
use Rattle.gp_locals.specs.code.UsableView.{usable_view}
use Rattle.gp_locals.proofs.usable.join_usable.Given as goal

-- with those that are left, the whole
abbrev pub invariant-loop-name : goal.invariant-loop-name
invariant-loop-name l =
    map usable_view l.joined.items ++ filter (spec.is_kept_among (map usable_view l.others)) (map usable_view (drop l.name-index l.usable))
    ≡ filter (spec.is_kept_among (map usable_view l.others)) (map usable_view l.usable)
