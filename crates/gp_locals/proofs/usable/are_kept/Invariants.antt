use Rattle.std.proofs.Common.{◌≡◌, map, drop}
use Rattle.std.specs.List.{list_all}
use Rattle.gp_locals.specs.code.Usable as spec
use Rattle.gp_locals.specs.code.UsableView.{usable_view}
use Rattle.gp_locals.proofs.usable.are_kept.Given as goal

-- those that are left decide
abbrev pub invariant-loop-name : goal.invariant-loop-name
invariant-loop-name l =
    list_all (spec.is_kept_among (map usable_view l.others)) (map usable_view (drop l.name-index l.usable))
    ≡ list_all (spec.is_kept_among (map usable_view l.others)) (map usable_view l.usable)
