use Rattle.std.proofs.Common.{◌∙◌, ◌++◌, ap, sym, length, rules}
use Rattle.std.proofs.lemmas.Iterator.Adapters.{YieldsList-from_vec}
use Rattle.std.proofs.lemmas.Iterator.Consumers.{YieldsList-so_far}
use Rattle.std.proofs.lemmas.List.{map-id}
use Rattle.gp_evaluator.proofs.EntryRuns.{append_exits}
use Rattle.gp_evaluator.proofs.entry.append.Goals as goal

pub returns-in_err-push : goal.returns-in_err-push
returns-in_err-push c =
    let so_far = YieldsList-so_far (YieldsList-from_vec c.args.more (search rules) (search rules)) c.loop-event.yielded _ c.loop-event.yielded_by in
    append_exits c.args.events.now c.push.new.self c.args.more _ c.from_residual.result c.from_residual.ensures.1 (length c.loop-event.yielded)
    (c.in_err-push.ensures.err ∙ c.loop-event.invariant ∙ ap (λ xs. c.args.events.now ++ xs) (sym (map-id c.loop-event.yielded) ∙ so_far))
