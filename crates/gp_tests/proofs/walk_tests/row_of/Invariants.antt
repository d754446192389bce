use Rattle.std.proofs.Common.{◌<◌}
use Rattle.std.specs.Prelude.{All}
use Rattle.gp_tests.proofs.walk_tests.row_of.Given as goal

-- each so far is a node
abbrev pub invariant-loop-node : goal.invariant-loop-node
invariant-loop-node l = All (λ node. node < l.count) l.row
