use Rattle.std.proofs.Common.{map}
use Rattle.gp_parse.specs.code.NestingCode as code
use Rattle.gp_parse.specs.FormLine.{line_of}
use Rattle.gp_parse.proofs.Readings.{nested}
use Rattle.gp_parse.proofs.nested_lines.nest.Goals as goal

pub returns : goal.returns
returns c = nested (map line_of c.args.lines.items) (code.line_number 0) c.read.result c.read.ensures
