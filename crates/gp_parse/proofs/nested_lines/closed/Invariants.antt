use Rattle.std.proofs.Common.{◌≡◌, Some, map, length}
use Rattle.gp_parse.specs.code.NestingCode as code
use Rattle.gp_parse.specs.code.NestingMachine.{closed}
use Rattle.gp_parse.specs.code.NestingViews.{frame_of}
use Rattle.gp_parse.proofs.nested_lines.closed.Given as goal

abbrev pub invariant-around : goal.invariant-around
invariant-around l = Some (closed (frame_of l.frame) (map frame_of l.frames)) ≡ code.all_closed (map frame_of l.fn.frames)

abbrev pub decreases-around : goal.decreases-around
decreases-around l = length l.frames
