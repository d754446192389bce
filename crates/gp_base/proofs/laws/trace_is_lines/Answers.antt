use Rattle.gp_base.proofs.TraceLines.{trace_is_lines_lem}
use Rattle.gp_base.proofs.laws.trace_is_lines.Goals as goal

pub returns : goal.returns
returns c = trace_is_lines_lem
