use Rattle.std.proofs.lemmas.Result.{err_from_is_err_and}
use Rattle.hg_ops.specs.TypeView.{type_view}
use Rattle.hg_json.specs.Reading.{type_in}
use Rattle.hg_json.proofs.Turns.{next_found, missed, all_found}
use Rattle.hg_json.proofs.rows.types_of.Goals as goal

pub returns-in_err-ty : goal.returns-in_err-ty
returns-in_err-ty c =
    let p = err_from_is_err_and c.from_residual.result c.from_residual.ensures.1 in
    rw (p.1, p.2) (missed (type_in c.args.profile) c.loop-k.found c.args.items.now c.loop-k.k _ c.loop-k.invariant c.in_err-ty.field-0.0 c.index-items-k.result c.loop-k-test.true c.index-items-k.is c.in_err-ty.ensures)

pub loop-k-preserved : goal.loop-k-preserved
loop-k-preserved c =
    rw c.in_ok-push.ensures.ok (next_found (type_in c.args.profile) c.loop-k.found c.args.items.now c.loop-k.k _ c.loop-k.invariant c.index-items-k.result (type_view c.in_ok-ty.ty) c.loop-k-test.true c.index-items-k.is c.in_ok-ty.ensures)

pub returns : goal.returns
returns c = all_found (type_in c.args.profile) c.loop-k.found c.args.items.now c.loop-k.k _ c.loop-k.invariant c.loop-k-test.false
