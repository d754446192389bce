-- What contracts see of types.
use Rattle.std.specs.Prelude.{map, List}
use Rattle.hg_ops.specs.declared.graph_type.GraphType.{GraphType as Declared}
use Rattle.hg_ops.specs.declared.graph_type.GraphType.TheVariants as kind
use Rattle.hg_ops.specs.declared.graph_type.Row.TheInside as inside_row
use Rattle.hg_ops.specs.declared.graph_type.Rows.TheInside as inside_rows
use Rattle.hg_ops.specs.GraphType.{GraphType, Int, Qubit, sum_type, function_type}

abbrev pub type_view : Declared → GraphType
type_view kind.Int = Int
type_view kind.Qubit = Qubit
type_view (kind.Sum rows) = sum_type rows
type_view (kind.Function ins outs) = function_type ins outs

abbrev pub row_view : inside_row.Inside → List GraphType
row_view row = map type_view row.types.items

abbrev pub rows_view : inside_rows.Inside → List (List GraphType)
rows_view rows = rows.rows.items
