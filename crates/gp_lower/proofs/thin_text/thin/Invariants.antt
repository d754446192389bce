use Rattle.std.proofs.Common.{◌≡◌, ◌++◌, length}
use Rattle.gp_lower.specs.ThinText.{thin_text}
use Rattle.gp_lower.proofs.thin_text.thin.Given as goal

abbrev pub invariant-loop-rest : goal.invariant-loop-rest
invariant-loop-rest l = l.text ≡ thin_text l.lines ++ l.rest

abbrev pub decreases-loop-rest : goal.decreases-loop-rest
decreases-loop-rest l = length l.rest
