use Rattle.std.proofs.Common.{◌∙◌, ap, arith, ◌+◌, ◌-◌, length}
use Rattle.hg_run.specs.Entries.{Entry, entry_or, entry_from}
use Rattle.hg_run.specs.code.EntryView.{entry_view}
use Rattle.hg_run.proofs.Found.{entry_more}
use Rattle.hg_run.proofs.entry.entry_of.Goals as goal

pub loop-number-preserved : goal.loop-number-preserved
loop-number-preserved c =
    entry_more c.args.graph.now c.args.name.now _ c.loop-number.number _ (entry_view c.entry_by.result) (omega arith) c.op.ensures c.entry_by.ensures c.loop-number.invariant
    ∙ ap (λ (e : Entry). entry_or e (entry_from c.args.graph.now c.args.name.now (c.loop-number.number + 1) (length c.args.graph.now.nodes - (c.loop-number.number + 1)))) (ap entry_view c.in-Missing.is)
