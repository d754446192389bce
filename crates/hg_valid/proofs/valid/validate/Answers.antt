use Rattle.hg_valid.proofs.valid.validate.Goals as goal

pub returns-in-Ok-None-clause-ends : goal.returns-in-Ok-None-clause-ends
returns-in-Ok-None-clause-ends c =
    let valid = rw c.in-Ok-None.field-0-is at c.in-Ok-None.ensures in
    λ f arguments w proper picks. c.valid_graphs_end_well.ensures c.args.graph valid f arguments w proper picks
