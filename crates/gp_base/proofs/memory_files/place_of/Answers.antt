use Rattle.std.proofs.Common.{rules}
use Rattle.gp_base.proofs.LastPut.{last_put-place, last_put-missing}
use Rattle.gp_base.proofs.memory_files.place_of.Goals as goal

pub returns-clause-found : goal.returns-clause-found
returns-clause-found c =
    last_put-place c.args.files.now c.args.name.now _ (search rules) (search rules) (search rules)

pub returns-clause-missing : goal.returns-clause-missing
returns-clause-missing c = last_put-missing c.args.files.now c.args.name.now _ (search rules)
