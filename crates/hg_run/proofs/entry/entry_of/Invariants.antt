use Rattle.std.proofs.Common.{◌≡◌, ◌-◌, length}
use Rattle.hg_run.specs.Entries.{entry_of, entry_from}
use Rattle.hg_run.proofs.entry.entry_of.Given as goal

abbrev pub invariant-loop-number : goal.invariant-loop-number
invariant-loop-number l = entry_of l.graph l.name ≡ entry_from l.graph l.name l.number (length l.graph.nodes - l.number)
