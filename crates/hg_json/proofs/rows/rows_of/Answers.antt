use Rattle.std.proofs.lemmas.Result.{err_from_is_err_and}
use Rattle.hg_json.specs.Reading.{row_in}
use Rattle.hg_json.proofs.Turns.{next_found, missed, all_found}
use Rattle.hg_json.proofs.rows.rows_of.Goals as goal

pub returns-in_err-row : goal.returns-in_err-row
returns-in_err-row c =
    let p = err_from_is_err_and c.from_residual.result c.from_residual.ensures.1 in
    rw (p.1, p.2) (missed (row_in c.args.profile) c.loop-k.found c.args.items.now c.loop-k.k _ c.loop-k.invariant c.in_err-row.field-0.0 c.index-items-k.result c.loop-k-test.true c.index-items-k.is c.in_err-row.ensures)

pub loop-k-preserved : goal.loop-k-preserved
loop-k-preserved c =
    rw c.in_ok-push.ensures.ok (next_found (row_in c.args.profile) c.loop-k.found c.args.items.now c.loop-k.k _ c.loop-k.invariant c.index-items-k.result (c.in_ok-row.row) c.loop-k-test.true c.index-items-k.is c.in_ok-row.ensures)

pub returns : goal.returns
returns c = all_found (row_in c.args.profile) c.loop-k.found c.args.items.now c.loop-k.k _ c.loop-k.invariant c.loop-k-test.false
