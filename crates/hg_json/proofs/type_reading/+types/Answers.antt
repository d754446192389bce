use Rattle.std.proofs.Common.{length}
use Rattle.std.proofs.lemmas.Result.{err_from_is_err_and}
use Rattle.hg_json.specs.TypeText.{bar, comma, row_from, type_at}
use Rattle.hg_json.proofs.Separated.{starts, no_entry, last_entry, one_entry, run_out}
use Rattle.hg_json.proofs.type_reading.+types.Goals as goal
use Rattle.hg_ops.specs.TypeView.{type_view}

pub rows-loop-turn-init : goal.rows-loop-turn-init
rows-loop-turn-init t c = rw c.new-found.ensures (starts (row_from c.args.profile (type_at c.args.profile c.args.depth)) bar (length c.args.bytes.now) c.args.bytes.now)

pub rows-returns-in_err-entry : goal.rows-returns-in_err-entry
rows-returns-in_err-entry t c =
    let p = err_from_is_err_and c.from_residual.result c.from_residual.ensures.1 in
    rw (p.1, p.2) (no_entry (row_from c.args.profile (type_at c.args.profile c.args.depth)) bar c.loop-turn.found (length c.args.bytes.now) c.loop-turn._turn c.loop-turn.rest.now _ c.loop-turn.invariant
    c.in_err-entry.field-0.0 c.loop-turn-test.true c.in_err-entry.ensures)

pub rows-returns-in_default : goal.rows-returns-in_default
rows-returns-in_default t c =
    rw c.in_ok-push.ensures.ok (last_entry (row_from c.args.profile (type_at c.args.profile c.args.depth)) bar c.loop-turn.found (length c.args.bytes.now) c.loop-turn._turn c.loop-turn.rest.now _ c.loop-turn.invariant
    c.loop-turn-test.true c.in_ok-entry.entry c.in_ok-entry.behind.now c.in_ok-entry.ensures c.in_default.ensures)

pub rows-loop-turn-preserved : goal.rows-loop-turn-preserved
rows-loop-turn-preserved t c =
    rw c.in_ok-push.ensures.ok (one_entry (row_from c.args.profile (type_at c.args.profile c.args.depth)) bar c.loop-turn.found (length c.args.bytes.now) c.loop-turn._turn c.loop-turn.rest.now _ c.loop-turn.invariant
    c.loop-turn-test.true c.in_ok-entry.entry c.in_ok-entry.behind.now c.in_ok-entry.ensures c.in-Some.next.now c.in-Some.ensures)

pub rows-returns : goal.rows-returns
rows-returns t c =
    run_out (row_from c.args.profile (type_at c.args.profile c.args.depth)) bar c.loop-turn.found (length c.args.bytes.now) c.loop-turn._turn c.loop-turn.rest.now _ c.loop-turn.invariant c.loop-turn-test.false

pub some_types-loop-turn-init : goal.some_types-loop-turn-init
some_types-loop-turn-init t c = rw c.new-found.ensures (starts (type_at c.args.profile c.args.depth) comma (length c.args.bytes.now) c.args.bytes.now)

pub some_types-returns-in_err-entry : goal.some_types-returns-in_err-entry
some_types-returns-in_err-entry t c =
    let p = err_from_is_err_and c.from_residual.result c.from_residual.ensures.1 in
    rw (p.1, p.2) (no_entry (type_at c.args.profile c.args.depth) comma c.loop-turn.found (length c.args.bytes.now) c.loop-turn._turn c.loop-turn.rest.now _ c.loop-turn.invariant
    c.in_err-entry.field-0.0 c.loop-turn-test.true c.in_err-entry.ensures)

pub some_types-returns-in_default : goal.some_types-returns-in_default
some_types-returns-in_default t c =
    rw c.in_ok-push.ensures.ok (last_entry (type_at c.args.profile c.args.depth) comma c.loop-turn.found (length c.args.bytes.now) c.loop-turn._turn c.loop-turn.rest.now _ c.loop-turn.invariant
    c.loop-turn-test.true (type_view c.in_ok-entry.entry) c.in_ok-entry.behind.now c.in_ok-entry.ensures c.in_default.ensures)

pub some_types-loop-turn-preserved : goal.some_types-loop-turn-preserved
some_types-loop-turn-preserved t c =
    rw c.in_ok-push.ensures.ok (one_entry (type_at c.args.profile c.args.depth) comma c.loop-turn.found (length c.args.bytes.now) c.loop-turn._turn c.loop-turn.rest.now _ c.loop-turn.invariant
    c.loop-turn-test.true (type_view c.in_ok-entry.entry) c.in_ok-entry.behind.now c.in_ok-entry.ensures c.in-Some.next.now c.in-Some.ensures)

pub some_types-returns : goal.some_types-returns
some_types-returns t c =
    run_out (type_at c.args.profile c.args.depth) comma c.loop-turn.found (length c.args.bytes.now) c.loop-turn._turn c.loop-turn.rest.now _ c.loop-turn.invariant c.loop-turn-test.false
