use Rattle.std.proofs.Common.{◌<◌}
use Rattle.hg_graph.specs.Valid.{Rule, number_of}
use Rattle.hg_valid.specs.code.Broken.{AllKeep}
use Rattle.hg_valid.proofs.broken.first_broken.Given as goal

-- each rule before this one holds
abbrev pub invariant-loop-number : goal.invariant-loop-number
invariant-loop-number l = (rule : Rule) → number_of rule < l.number → AllKeep l.graph rule
