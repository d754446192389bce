use Rattle.std.proofs.Common.{◌≢◌, ℕ, ◌<◌, List, ◌++◌, get_or}
use Rattle.gp_lower.specs.declared.thin_text.ThinLine.TheVariants.{H}
use Rattle.gp_lower.specs.ThinText.{line_text}
use Rattle.gp_lower.proofs.thin_text.first_line.Given as goal

abbrev pub invariant-loop-line : goal.invariant-loop-line
invariant-loop-line l =
    (k : ℕ) → k < l.line-index → (rest : List ℕ) → l.text ≢ line_text (get_or l.line-items k H) ++ rest
