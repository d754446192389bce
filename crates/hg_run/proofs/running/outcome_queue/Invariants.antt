use Rattle.std.proofs.Common.{◌≡◌, take}
use Rattle.hg_run.proofs.running.outcome_queue.Given as goal

abbrev pub invariant-loop-k : goal.invariant-loop-k
invariant-loop-k l = l.queue.items ≡ take l.k l.outcomes
