use Rattle.hg_valid.specs.code.Ancestors.{AreJumps}
use Rattle.hg_valid.proofs.ancestors.jumps_of.Given as goal

abbrev pub invariant-loop-n : goal.invariant-loop-n
invariant-loop-n l = AreJumps l.graph l.n l.jumps.items
