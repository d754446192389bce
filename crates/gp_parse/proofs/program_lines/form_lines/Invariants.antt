use Rattle.std.proofs.Common.{map, take}
use Rattle.gp_parse.specs.FormLine.{line_of}
use Rattle.gp_parse.specs.Programs.{HaveForms}
use Rattle.gp_parse.proofs.program_lines.form_lines.Given as goal

abbrev pub invariant-loop-line : goal.invariant-loop-line
invariant-loop-line l = HaveForms (take l.line-index l.lines) (map line_of l.forms.items)
