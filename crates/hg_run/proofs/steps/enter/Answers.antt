use Rattle.hg_run.proofs.Parts.{if_ok}
use Rattle.hg_run.proofs.steps.enter.Goals as goal

pub returns-in-Conditional-clause-step : goal.returns-in-Conditional-clause-step
returns-in-Conditional-clause-step c = rw c.in-Conditional.is (if_ok c.enter_case.result _ _ c.enter_case.ensures (λ how h m. h c.in-Conditional.rows c.in-Conditional.ins c.in-Conditional.outs m c.args.frames.now.items))

pub returns-in-Cfg-clause-step : goal.returns-in-Cfg-clause-step
returns-in-Cfg-clause-step c = λ m. rw c.in-Cfg.is (c.enter_first.ensures c.in-Cfg.ins c.in-Cfg.outs m c.args.frames.now.items)
