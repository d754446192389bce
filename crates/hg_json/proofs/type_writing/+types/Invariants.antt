use Rattle.std.proofs.Common.{◌≡◌, ◌++◌, ℕ, List, map, drop, nat_lt}
use Rattle.std.specs.Prelude.{string_bytes}
use Rattle.hg_ops.specs.GraphType.{row_of, rows_of}
use Rattle.hg_ops.specs.TypeView.{type_view}
use Rattle.hg_ops.specs.code.TypeSize.{type_size, row_size, rows_size}
use Rattle.hg_json.specs.TypeText.{row_onto, rows_onto}
use Rattle.hg_json.proofs.TypePushes.{types_onto, sum_onto}
use Rattle.hg_json.proofs.type_writing.+types.Given as goal

abbrev pub decreases-push_type : goal.decreases-push_type
decreases-push_type l = type_size (type_view l.ty.now)

abbrev pub decreases-push_row : goal.decreases-push_row
decreases-push_row l = row_size l.row.now

abbrev pub decreases-push_rows : goal.decreases-push_rows
decreases-push_rows l = rows_size l.rows.now

abbrev pub invariant-push_row-loop-k : goal.invariant-push_row-loop-k
invariant-push_row-loop-k l = (rest : List ℕ) → string_bytes l.out ++ types_onto (nat_lt 0 l.k) (row_of (map type_view (drop l.k l.types))) rest ≡ string_bytes l.initial.out ++ row_onto (row_of (map type_view l.types)) rest

abbrev pub invariant-push_rows-loop-k : goal.invariant-push_rows-loop-k
invariant-push_rows-loop-k l = (rest : List ℕ) → string_bytes l.out ++ sum_onto (nat_lt 0 l.k) (rows_of (drop l.k l.rows)) rest ≡ string_bytes l.initial.out ++ rows_onto (rows_of l.rows) rest
