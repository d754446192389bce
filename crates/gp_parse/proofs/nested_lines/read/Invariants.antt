use Rattle.std.proofs.Common.{◌≡◌, map, length}
use Rattle.std.specs.Vec.Iter.{into_iter_items, into_iter_len}
use Rattle.gp_parse.specs.FirstFault.{within}
use Rattle.gp_parse.specs.code.NestingCode as code
use Rattle.gp_parse.specs.code.NestingMachine.{read, start}
use Rattle.gp_parse.specs.FormLine.{line_of}
use Rattle.gp_parse.specs.code.NestingViews.{state_of}
use Rattle.gp_parse.proofs.nested_lines.read.Given as goal

abbrev pub invariant-loop-line : goal.invariant-loop-line
invariant-loop-line l = (read (within 50) start (code.line_number 0) (map line_of l.fn.lines.items) ≡ read (within 50) (state_of l.items l.position) l.last (map line_of (into_iter_items l.line-iterator))) × (into_iter_len l.line-iterator ≡ length (into_iter_items l.line-iterator))
