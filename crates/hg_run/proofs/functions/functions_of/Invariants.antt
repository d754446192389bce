use Rattle.std.proofs.Common.{◌≤◌, length}
use Rattle.hg_run.proofs.Callees.{HasFrom}
use Rattle.hg_run.proofs.functions.functions_of.Given as goal

abbrev pub invariant-loop-n : goal.invariant-loop-n
invariant-loop-n l = (l.n ≤ length l.graph.nodes) × HasFrom l.graph l.n l.numbers

abbrev pub decreases-loop-n : goal.decreases-loop-n
decreases-loop-n l = l.n
