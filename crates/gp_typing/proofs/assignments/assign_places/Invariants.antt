use Rattle.std.proofs.Common.{◌≡◌, drop, map}
use Rattle.gp_types.specs.Types.{tys_of}
use Rattle.gp_types.specs.View.{ty_view}
use Rattle.gp_typing.specs.Statements as spec
use Rattle.gp_typing.specs.code.StatementView.{frame_view, known_for}
use Rattle.gp_typing.proofs.assignments.assign_places.Given as goal

-- the targets that are left, in the environment so far, answer what all do
abbrev pub invariant-loop-i : goal.invariant-loop-i
invariant-loop-i l =
    spec.assigned_places (known_for l.frame) (frame_view l.frame) l.environment l.line (drop l.i l.places) (tys_of (map ty_view (drop l.i l.parts)))
    ≡ spec.assigned_places (known_for l.frame) (frame_view l.frame) l.initial.environment l.line l.places (tys_of (map ty_view l.parts))
