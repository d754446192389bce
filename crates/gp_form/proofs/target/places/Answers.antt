use Rattle.std.proofs.Common.{◌+◌, length, [], ◌∷◌, refl}
use Rattle.std.proofs.lemmas.Result.{err_from_is_err_and}
use Rattle.gp_form.proofs.ListTurns.{listed_init, listed_close, listed_fail, listed_end, listed_stop, listed_go_on, listed_run_out}
use Rattle.gp_form.specs.code.Reading.{place_front, past_end}
use Rattle.gp_form.proofs.target.places.Goals as goal

pub loop-turn-init : goal.loop-turn-init
loop-turn-init c = rw c.in_ok-push.ensures.ok (rw c.new-found.ensures (listed_init place_front (past_end c.args.end) (c.args.first ∷ []) c.args.tokens.now (length c.args.tokens.now + 1) refl))

pub returns-in-Some : goal.returns-in-Some
returns-in-Some c =
    listed_close (place_front) (past_end c.args.end) (c.loop-turn.found) (length c.args.tokens.now + 1) c.loop-turn._turn c.loop-turn.rest.now _ c.loop-turn.invariant
    c.in-Some.after.now c.loop-turn-test.true c.in-Some.ensures

pub returns-in_err-item : goal.returns-in_err-item
returns-in_err-item c =
    let p = err_from_is_err_and c.from_residual-in_err-item.result c.from_residual-in_err-item.ensures.1 in
    rw (p.1, p.2) (listed_fail (place_front) (past_end c.args.end) (c.loop-turn.found) (length c.args.tokens.now + 1) c.loop-turn._turn c.loop-turn.rest.now _ c.loop-turn.invariant
    c.in_err-item.field-0.0 c.loop-turn-test.true c.in_default.ensures c.in_err-item.ensures)

pub returns-in-Some-past_end : goal.returns-in-Some-past_end
returns-in-Some-past_end c =
    let pushed = c.in_ok-push-2.ensures.ok in
    rw pushed (listed_end (place_front) (past_end c.args.end) (c.loop-turn.found) (length c.args.tokens.now + 1) c.loop-turn._turn c.loop-turn.rest.now _ c.loop-turn.invariant
    c.loop-turn-test.true c.in_default.ensures (c.in_ok-item.item) c.in_ok-item.next.now c.in_ok-item.ensures c.in-Some-past_end.after.now c.in-Some-past_end.ensures)

pub returns-in_default-past_symbol : goal.returns-in_default-past_symbol
returns-in_default-past_symbol c =
    listed_stop (place_front) (past_end c.args.end) (c.loop-turn.found) (length c.args.tokens.now + 1) c.loop-turn._turn c.loop-turn.rest.now _ c.loop-turn.invariant
    c.loop-turn-test.true c.in_default.ensures (c.in_ok-item.item) c.in_ok-item.next.now c.in_ok-item.ensures c.in_default-past_end.ensures c.in_default-past_symbol.ensures

pub loop-turn-preserved : goal.loop-turn-preserved
loop-turn-preserved c =
    let pushed = c.in_ok-push-2.ensures.ok in
    rw pushed (listed_go_on (place_front) (past_end c.args.end) (c.loop-turn.found) (length c.args.tokens.now + 1) c.loop-turn._turn c.loop-turn.rest.now _ c.loop-turn.invariant
    c.loop-turn-test.true c.in_default.ensures (c.in_ok-item.item) c.in_ok-item.next.now c.in_ok-item.ensures c.in-Some-past_symbol.after.now c.in_default-past_end.ensures c.in-Some-past_symbol.ensures)

pub returns : goal.returns
returns c = listed_run_out (place_front) (past_end c.args.end) (c.loop-turn.found) (length c.args.tokens.now + 1) c.loop-turn._turn c.loop-turn.rest.now _ c.loop-turn.invariant c.loop-turn-test.false
