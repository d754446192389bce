use Rattle.std.proofs.Common.{◌≡◌, ◌<◌, map, ap, arith}
use Rattle.hg_ops.specs.TypeView.{type_view}
use Rattle.hg_ops.specs.code.TypeSize.{type_size, row_size, rows_size}
use Rattle.hg_json.proofs.TypePushes.{type_falls, row_falls}
use Rattle.hg_json.proofs.type_writing.+types.Goals as goal

pub push_row-push_type-requires : goal.push_row-push_type-requires
push_row-push_type-requires t c =
    let falls : type_size (type_view c.index-types-k.result) < row_size (map type_view c.as_slice-types.result.now) =
    type_falls c.as_slice-types.result.now c.loop-k.k c.index-types-k.result _ c.loop-k-test.true c.index-types-k.is in
    let same : row_size (map type_view c.as_slice-types.result.now) ≡ row_size c.args.row.now = ap row_size c.as_slice-types.ensures in
    (omega (arith, falls, same), tt)

pub push_rows-push_row-requires : goal.push_rows-push_row-requires
push_rows-push_row-requires t c =
    let falls : row_size c.index-rows-k.result < rows_size c.as_slice-rows.result.now =
    row_falls c.as_slice-rows.result.now c.loop-k.k c.index-rows-k.result _ c.loop-k-test.true c.index-rows-k.is in
    let same : rows_size c.as_slice-rows.result.now ≡ rows_size c.args.rows.now = ap rows_size c.as_slice-rows.ensures in
    (omega (arith, falls, same), tt)
