use Rattle.std.proofs.Common.{◌-◌}
use Rattle.hg_valid.specs.code.Effects.{AreCarried}
use Rattle.hg_valid.proofs.effects.effects_of.Given as goal

-- the marks of the last nodes are carried
abbrev pub invariant-loop-passed : goal.invariant-loop-passed
invariant-loop-passed l = AreCarried l.graph (l.count - l.passed) l.marks.items
