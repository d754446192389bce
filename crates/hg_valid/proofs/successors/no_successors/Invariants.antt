use Rattle.std.proofs.Common.{◌≡◌, [], replicate}
use Rattle.hg_valid.proofs.successors.no_successors.Given as goal

-- one list for every turn
abbrev pub invariant-loop : goal.invariant-loop
invariant-loop l = l.lists.items ≡ replicate l.counter []
