use Rattle.std.proofs.Common.{◌<◌, ◌≤◌, length, sym, arith}
use Rattle.hg_valid.proofs.PortKinds.{control_at, control_past}
use Rattle.hg_valid.proofs.links.block_output.Goals as goal

pub returns-then-place-len : goal.returns-then-place-len
returns-then-place-len c = let l : c.args.place < length c.args.rows.now = omega arith in sym (control_at c.args.rows.now c.args.place l)

pub returns-else-place-len : goal.returns-else-place-len
returns-else-place-len c = let l : length c.args.rows.now ≤ c.args.place = omega arith in sym (control_past c.args.rows.now c.args.place l)
