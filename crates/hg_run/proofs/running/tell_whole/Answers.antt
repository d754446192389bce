use Rattle.hg_run.proofs.Buffered.{told_ok, told_part, told_end}
use Rattle.hg_run.proofs.running.tell_whole.Goals as goal

pub returns-clause-ok : goal.returns-clause-ok
returns-clause-ok g c =
    told_ok c.tell-told.result c.finish.result _ _ _ c.new-buffer.result c.tell-told.new.buffer c.finish.new.buffer _ c.new-buffer.ensures c.tell-told.ensures.ok c.finish.ensures.end c.finish.ensures.whole c.finish.ensures.none

pub returns-clause-err : goal.returns-clause-err
returns-clause-err g c =
    told_part c.tell-told.result c.finish.result _ _ _ c.new-buffer.result c.tell-told.new.buffer c.finish.new.buffer _ c.new-buffer.ensures c.tell-told.ensures.ok c.finish.ensures.end c.finish.ensures.whole c.tell-told.ensures.err c.tell-told.ensures.grown c.finish.ensures.grown

pub returns-clause-end : goal.returns-clause-end
returns-clause-end g c = told_end c.tell-told.result c.finish.result _ c.finish.ensures.end c.tell-told.ensures.end
