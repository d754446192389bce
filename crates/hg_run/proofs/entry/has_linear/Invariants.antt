use Rattle.std.proofs.Common.{◌≡◌, map, drop}
use Rattle.hg_ops.specs.TypeView.{type_view}
use Rattle.hg_run.specs.Entries.{has_linear}
use Rattle.hg_run.proofs.entry.has_linear.Given as goal

abbrev pub invariant-loop-k : goal.invariant-loop-k
invariant-loop-k l = has_linear l.types ≡ has_linear (map type_view (drop l.k l.list))
