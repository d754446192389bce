use Rattle.std.proofs.Common.{◌≡◌, take}
use Rattle.gp_tree.proofs.place.Targets.copy.Given as goal

abbrev pub invariant-loop-place : goal.invariant-loop-place
invariant-loop-place l = l.copies ≡ take l.place-index l.place-items
