use Rattle.hg_run.proofs.Counts.{root}
use Rattle.hg_run.proofs.counted_set.CountedSet.len.Goals as goal

pub returns : goal.returns
returns c =
    rw (c.count_at.ensures, c.deref.ensures.value, c.deref-2.ensures.value, ← c.self.view_is)
    (root c.self.inside.flags.items c.self.inside.counts.items c.self.inside.depth c.self.invariant)
