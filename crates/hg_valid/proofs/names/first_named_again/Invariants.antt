use Rattle.hg_valid.proofs.Named.{AreNamed, finds}
use Rattle.hg_valid.proofs.names.first_named_again.Given as goal

abbrev pub invariant-loop-n : goal.invariant-loop-n
invariant-loop-n l = AreNamed l.graph l.n (finds l.names)
