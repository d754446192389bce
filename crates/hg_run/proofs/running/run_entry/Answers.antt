use Rattle.std.proofs.Common.{sym, subst}
use Rattle.std.proofs.lemmas.Result.{on_ok_weaker, on_err_weaker}
use Rattle.gp_base.specs.Outside.{Wrote, WrotePart}
use Rattle.gp_base.specs.World.{start}
use Rattle.hg_run.specs.Told.{trace_of, EndsAs}
use Rattle.hg_run.specs.code.Left.{IsNotStuck}
use Rattle.hg_run.proofs.Parts.{if_ok}
use Rattle.hg_run.proofs.Walks.{out_begins, entry_fine}
use Rattle.hg_run.proofs.running.run_entry.Goals as goal

pub tell_whole-requires-clause-run : goal.tell_whole-requires-clause-run
tell_whole-requires-clause-run g c =
    let begins = out_begins c.args.graph.now c.args.entry c.new-2.result c.new-3.result.items (record { flags = c.new.result; turns = c.args.turns; outcomes = c.in_ok-outcome_queue.field-0; picks = c.in_ok-pick_queue.field-0 }) c.args.outcomes.now c.args.picks.now
    c.new-2.ensures c.new-3.ensures.items c.new.ensures.items c.in_ok-outcome_queue.ensures c.in_ok-pick_queue.ensures in
    subst IsNotStuck (sym begins) (entry_fine c.args.graph.now c.graph-graph.ensures.valid c.args.entry.0 c.requires (start c.args.turns c.args.outcomes.now) c.args.picks.now)

pub returns-clause-ok : goal.returns-clause-ok
returns-clause-ok g c =
    let begins = out_begins c.args.graph.now c.args.entry c.new-2.result c.new-3.result.items (record { flags = c.new.result; turns = c.args.turns; outcomes = c.in_ok-outcome_queue.field-0; picks = c.in_ok-pick_queue.field-0 }) c.args.outcomes.now c.args.picks.now
    c.new-2.ensures c.new-3.ensures.items c.new.ensures.items c.in_ok-outcome_queue.ensures c.in_ok-pick_queue.ensures in
    on_ok_weaker c.tell_whole.result (λ w. subst (λ out. Wrote (g.S.Sink.bytes c.args.sink.now) (g.S.Sink.bytes c.tell_whole.new.sink) (trace_of out)) begins w) c.tell_whole.ensures.ok

pub returns-clause-end : goal.returns-clause-end
returns-clause-end g c =
    let begins = out_begins c.args.graph.now c.args.entry c.new-2.result c.new-3.result.items (record { flags = c.new.result; turns = c.args.turns; outcomes = c.in_ok-outcome_queue.field-0; picks = c.in_ok-pick_queue.field-0 }) c.args.outcomes.now c.args.picks.now
    c.new-2.ensures c.new-3.ensures.items c.new.ensures.items c.in_ok-outcome_queue.ensures c.in_ok-pick_queue.ensures in
    if_ok c.tell_whole.result _ _ c.tell_whole.ensures.end (λ how h. subst (λ out. EndsAs out how) begins h)

pub returns-clause-err : goal.returns-clause-err
returns-clause-err g c =
    let begins = out_begins c.args.graph.now c.args.entry c.new-2.result c.new-3.result.items (record { flags = c.new.result; turns = c.args.turns; outcomes = c.in_ok-outcome_queue.field-0; picks = c.in_ok-pick_queue.field-0 }) c.args.outcomes.now c.args.picks.now
    c.new-2.ensures c.new-3.ensures.items c.new.ensures.items c.in_ok-outcome_queue.ensures c.in_ok-pick_queue.ensures in
    on_err_weaker c.tell_whole.result (λ w. subst (λ out. WrotePart (g.S.Sink.bytes c.args.sink.now) (g.S.Sink.bytes c.tell_whole.new.sink) (trace_of out)) begins w) c.tell_whole.ensures.err
