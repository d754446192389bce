use Rattle.std.proofs.Common.{◌≡◌, ◌<◌, length}
use Rattle.std.specs.Prelude.{All}
use Rattle.gp_tests.proofs.walk_tests.lists.Given as goal

-- a list for each row so far, of nodes
abbrev pub invariant-loop-row : goal.invariant-loop-row
invariant-loop-row l = record {
  longer : length l.lists.items ≡ l.row-index;
  closed : All (λ nodes. All (λ node. node < l.count) nodes) l.lists.items;
}
