use Rattle.std.proofs.Common.{arith}
use Rattle.gp_lower.specs.declared.thin_text.ThinLine.TheVariants.{H, X, Discard}
use Rattle.gp_lower.proofs.thin_text.first_line.Goals as goal

pub returns : goal.returns
returns c H = c.loop-line.invariant 0 (omega arith)
returns c X = c.loop-line.invariant 1 (omega arith)
returns c Discard = c.loop-line.invariant 2 (omega arith)
