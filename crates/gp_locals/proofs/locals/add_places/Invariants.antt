use Rattle.std.proofs.Common.{◌≡◌, flat_map, drop}
use Rattle.gp_locals.specs.Locals.{with_names, names_of_place}
use Rattle.gp_locals.proofs.locals.add_places.Given as goal

-- with the names that are left, the same as at first
abbrev pub invariant-loop-place : goal.invariant-loop-place
invariant-loop-place l =
    with_names l.names (flat_map names_of_place (drop l.place-index l.places)) ≡ with_names l.fn.names (flat_map names_of_place l.places)
