use Rattle.std.proofs.lemmas.List.{take_rest}
use Rattle.hg_run.proofs.Buffered.{one_more}
use Rattle.hg_run.proofs.line_buffer.LineBuffer.flush.Goals as goal

pub loop-self-preserved : goal.loop-self-preserved
loop-self-preserved g c =
    let said = c.in_ok-self-inside.ensures in
    let rest = take_rest c.loop-self.self-inside.bytes.items c.loop-self.self-inside.written in
    one_more _ _ _ _ _ _ _ _ _ _ c.loop-self.invariant (rw (c.deref.ensures.value, rest) at said.within) (rw (c.deref.ensures.value, rest) at said.written) said.count
