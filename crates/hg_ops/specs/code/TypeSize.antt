-- How large types are: each is larger than those that it leads back to.
use Rattle.std.specs.Prelude.{ℕ, suc, ◌+◌, List}
use Rattle.hg_ops.specs.GraphType.{GraphType, Int, Qubit, Sum, Function, Row, no_types, next, Rows, no_rows, next_row, row_of, rows_of}

abbrev mutual
  pub type_size : GraphType → ℕ
  type_size Int = 0
  type_size Qubit = 0
  type_size (Sum rows) = suc (copied_rows_size rows)
  type_size (Function ins outs) = suc (copied_row_size ins + copied_row_size outs)

  pub copied_row_size : Row → ℕ
  copied_row_size no_types = 0
  copied_row_size (next type row) = suc (type_size type + copied_row_size row)

  pub copied_rows_size : Rows → ℕ
  copied_rows_size no_rows = 0
  copied_rows_size (next_row row rows) = suc (copied_row_size row + copied_rows_size rows)

abbrev pub row_size : List GraphType → ℕ
row_size types = copied_row_size (row_of types)

abbrev pub rows_size : List (List GraphType) → ℕ
rows_size rows = copied_rows_size (rows_of rows)
