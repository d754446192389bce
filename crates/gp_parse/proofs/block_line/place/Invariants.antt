use Rattle.std.proofs.Common.{◌≡◌, map, length}
use Rattle.gp_parse.specs.code.NestingMachine.{place, placed}
use Rattle.gp_parse.specs.code.NestingViews.{frame_of}
use Rattle.gp_parse.proofs.block_line.place.Given as goal

abbrev pub invariant-deeper : goal.invariant-deeper
invariant-deeper l = place l.indent (frame_of l.frame) (map frame_of l.frames) ≡ placed l.indent (map frame_of l.fn.frames)

abbrev pub decreases-deeper : goal.decreases-deeper
decreases-deeper l = length l.frames
