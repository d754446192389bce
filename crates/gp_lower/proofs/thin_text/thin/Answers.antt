use Rattle.std.proofs.Common.{sym, ◌∙◌, arith}
use Rattle.gp_lower.specs.ThinText.{lines_text, thin_head}
use Rattle.gp_lower.proofs.ThinLemmas.{not_thin}
use Rattle.gp_lower.proofs.thin_text.thin.Goals as goal

pub returns-in_default-clause-none : goal.returns-in_default-clause-none
unfolding thin_head
returns-in_default-clause-none c lines = c.in_default.ensures (lines_text lines)

pub loop-rest-init : goal.loop-rest-init
unfolding thin_head
loop-rest-init c = rw c.new-lines.ensures c.in-Some.ensures

pub returns-in_default-first_line-clause-none : goal.returns-in_default-first_line-clause-none
returns-in_default-first_line-clause-none c all same =
    not_thin c.loop-rest.lines all c.loop-rest.rest.now (grind arith) c.in_default-first_line.ensures
    (sym c.loop-rest.invariant ∙ same)
