use Rattle.hg_run.proofs.Kept.{no_truth_in}
use Rattle.hg_run.proofs.shapes.truth_in.Goals as goal

pub returns-in_default : goal.returns-in_default
returns-in_default c = no_truth_in c.args.number c.as_slice.result.now c.args.row.now c.as_slice.ensures c.in_default.len_at_least
