use Rattle.hg_run.proofs.Counts.{IsOnWay}
use Rattle.hg_run.proofs.counted_set.CountedSet.nth.Given as goal

abbrev pub invariant-loop : goal.invariant-loop
invariant-loop l = IsOnWay l.self-inside.flags.items l.self-inside.counts.items l.rank l.counter l.width l.place l.rest
