use Rattle.std.proofs.Common.{rules}
use Rattle.gp_base.proofs.LastPut.{puts-push}
use Rattle.gp_base.proofs.memory_files.MemoryFiles.put.Goals as goal

pub returns-clause-ok : goal.returns-clause-ok
returns-clause-ok c =
    let files = c.self.inside in
    rw (← c.self.view_is)
    (puts-push files.stored.items files.cursor files.plan c.args.name.now c.args.bytes.now _ (search rules) c.self.invariant)
