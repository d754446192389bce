use Rattle.std.proofs.Common.{◌≡◌, ◌-◌, ◌≤◌, length, drop}
use Rattle.gp_lex.specs.Tokens.{closing}
use Rattle.gp_lex.proofs.Closing.{later}
use Rattle.gp_lex.proofs.quoted.closing.Given as goal

abbrev pub invariant-loop-len : goal.invariant-loop-len
invariant-loop-len l = (l.len ≤ length l.text) × (closing l.quote l.text ≡ later l.len (closing l.quote (drop l.len l.text)))

abbrev pub decreases-loop-len : goal.decreases-loop-len
decreases-loop-len l = length l.text - l.len
