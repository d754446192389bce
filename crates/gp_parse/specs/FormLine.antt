-- A line in memory as plain data.
use Rattle.gp_tree.specs.Form.{form}
use Rattle.gp_parse.specs.declared.form_line.FormLine.{FormLine}
use Rattle.gp_parse.specs.Nesting.{Line}

abbrev pub line_of : FormLine → Line
line_of x = record { number = x.number; indent = x.indent; form = form x.form.value }
