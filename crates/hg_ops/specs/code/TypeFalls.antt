-- The types in a row are smaller than the row, and the rows of a Sum smaller than the Sum.
use Rattle.std.specs.Prelude.{◌+◌, ◌≤◌, max, List, [], ◌∷◌, map}
use Rattle.std.proofs.Common.{arith}
use denote.Param.Weighed.{most}
use Rattle.hg_ops.specs.declared.graph_type.GraphType.{GraphType as Declared}
use Rattle.hg_ops.specs.declared.graph_type.GraphType.TheVariants as kind
use Rattle.hg_ops.specs.declared.graph_type.Row.TheDeep.{deep-GraphType}
use Rattle.hg_ops.specs.GraphType.{GraphType}
use Rattle.hg_ops.specs.code.TypeSize.{type_size, row_size, rows_size}
use Rattle.hg_ops.specs.TypeView.{type_view}

deep_le-type_size : (t : Declared) → deep-GraphType t ≤ type_size (type_view t)
deep_le-type_size kind.Int = omega arith
deep_le-type_size kind.Qubit = omega arith
deep_le-type_size (kind.Sum rows) = omega arith
deep_le-type_size (kind.Function ins outs) = omega arith

pub most_le-row_size : (ts : List Declared) → max (most deep-GraphType ts) 0 ≤ row_size (map type_view ts)
most_le-row_size [] = omega arith
most_le-row_size (t ∷ ts) = omega (arith, deep_le-type_size t, most_le-row_size ts)

pub most_le-rows_size : (rs : List (List GraphType)) → max (most (λ row. row_size row + 1) rs) 0 ≤ rows_size rs
most_le-rows_size [] = omega arith
most_le-rows_size (r ∷ rs) = omega (arith, most_le-rows_size rs)
