use Rattle.std.proofs.Common.{arith}
use Rattle.std.proofs.lemmas.Grind.{common_steps}
use Rattle.gp_base.proofs.LastPut.{left_at-more}
use Rattle.gp_base.proofs.memory_files.MemoryFilesFiles.read.Goals as goal

pub returns-clause-moved : goal.returns-clause-moved
returns-clause-moved c =
    grind (arith, common_steps, left_at-more c.self.inside.stored.items c.unwrap-cursor.result c.copy_front-count.result)
