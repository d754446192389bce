use Rattle.std.proofs.Common.{◌≡◌, drop, map}
use Rattle.hg_ops.specs.GraphType.{row_of, rows_of, row_linear, rows_linear}
use Rattle.hg_ops.specs.TypeView.{type_view}
use Rattle.hg_ops.proofs.graph_type.+linear.Given as goal

-- no type so far is linear
abbrev pub invariant-Row::is_linear-loop-k : goal.invariant-Row::is_linear-loop-k
invariant-Row::is_linear-loop-k l = row_linear (row_of (map type_view (drop l.k l.self-inside.types.items))) ≡ row_linear (row_of l.self)

abbrev pub invariant-Rows::is_linear-loop-k : goal.invariant-Rows::is_linear-loop-k
invariant-Rows::is_linear-loop-k l = rows_linear (rows_of (drop l.k l.self)) ≡ rows_linear (rows_of l.self)
