use Rattle.std.proofs.Common.{sym, ap, ◌∙◌}
use Rattle.hg_run.specs.code.EntryView.{entry_view}
use Rattle.hg_run.proofs.Found.{found}
use Rattle.hg_run.proofs.named.run.Goals as goal

pub run_entry-requires : goal.run_entry-requires
run_entry-requires g c = rw c.graph.ensures.same at (found c.graph.result.now c.args.entry.now c.in-Closed.node.0 (sym c.entry_of.ensures ∙ ap entry_view c.in-Closed.is))
