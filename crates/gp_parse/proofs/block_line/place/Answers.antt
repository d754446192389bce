use Rattle.std.proofs.Common.{map, sym, ◌∙◌}
use Rattle.gp_parse.specs.code.NestingViews.{frame_of}
use Rattle.gp_parse.proofs.Places.{place_found, place_lost}
use Rattle.gp_parse.proofs.block_line.place.Goals as goal

pub returns-then-frame-indent : goal.returns-then-frame-indent
returns-then-frame-indent c = sym c.deeper.invariant ∙ place_found c.args.indent (frame_of c.deeper.frame) (map frame_of c.deeper.frames) c.if-frame-indent.true

pub returns-else-frame-indent : goal.returns-else-frame-indent
returns-else-frame-indent c = sym c.deeper.invariant ∙ place_lost c.args.indent (frame_of c.deeper.frame) (map frame_of c.deeper.frames) c.if-frame-indent.false c.deeper-test.false
