use Rattle.hg_valid.specs.code.Signatures.{AreSignatures}
use Rattle.hg_valid.proofs.signatures.signatures_of.Given as goal

abbrev pub invariant-loop-n : goal.invariant-loop-n
invariant-loop-n l = AreSignatures l.graph l.n l.signatures.items
