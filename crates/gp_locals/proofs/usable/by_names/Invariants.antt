use Rattle.std.proofs.Common.{◌≡◌, ◌++◌, map, drop}
use Rattle.gp_locals.specs.code.Usable as spec
use Rattle.gp_locals.specs.View.{name_view}
use Rattle.gp_locals.specs.code.UsableView.{usable_view}
use Rattle.gp_locals.proofs.usable.by_names.Given as goal

-- with those that are left, the whole
abbrev pub invariant-loop-name : goal.invariant-loop-name
invariant-loop-name l =
    map name_view l.listed ++ spec.by_names l.names (map usable_view (drop l.name-index l.usable))
    ≡ spec.by_names l.names (map usable_view l.usable)
