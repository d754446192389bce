use Rattle.std.proofs.Common.{◌≡◌, length, is_some, true, false, rules}
use Rattle.std.proofs.lemmas.Result.{err_from_is_err_and}
use Rattle.gp_form.specs.code.FormReading.{nothing}
use Rattle.gp_form.proofs.FormTurns.{names_start, names_fail, names_end, names_stop, names_go_on, names_run_out, there, not_there}
use Rattle.gp_form.proofs.import.bare_names.Goals as goal

pub loop-turn-init : goal.loop-turn-init
loop-turn-init c = rw c.new-found.ensures (names_start (length c.args.tokens.now) c.args.tokens.now)

pub returns-in_err-item : goal.returns-in_err-item
returns-in_err-item c =
    let p = err_from_is_err_and c.from_residual.result c.from_residual.ensures.1 in
    rw (p.1, p.2) (names_fail c.loop-turn.found (length c.args.tokens.now) c.loop-turn._turn c.loop-turn.rest.now _ c.loop-turn.invariant c.in_err-item.field-0.0 c.loop-turn-test.true c.in_err-item.ensures)

pub returns-then-is_some : goal.returns-then-is_some
returns-then-is_some c =
    let found : is_some c.past_end.result ≡ true = search rules in
    let end = there _ c.past_end.result (nothing c.in_ok-item.next.now) c.past_end.ensures found in
    rw c.in_ok-push.ensures.ok (names_end c.loop-turn.found (length c.args.tokens.now) c.loop-turn._turn c.loop-turn.rest.now _ c.loop-turn.invariant c.loop-turn-test.true c.in_ok-item.item c.in_ok-item.next.now c.in_ok-item.ensures end.0 end.1)

pub returns-in_default : goal.returns-in_default
returns-in_default c =
    let found : is_some c.past_end.result ≡ false = search rules in
    names_stop c.loop-turn.found (length c.args.tokens.now) c.loop-turn._turn c.loop-turn.rest.now _ c.loop-turn.invariant c.loop-turn-test.true c.in_ok-item.item c.in_ok-item.next.now c.in_ok-item.ensures (not_there _ c.past_end.result (nothing c.in_ok-item.next.now) c.past_end.ensures found) c.in_default.ensures

pub loop-turn-preserved : goal.loop-turn-preserved
loop-turn-preserved c =
    let found : is_some c.past_end.result ≡ false = search rules in
    rw c.in_ok-push.ensures.ok (names_go_on c.loop-turn.found (length c.args.tokens.now) c.loop-turn._turn c.loop-turn.rest.now _ c.loop-turn.invariant c.loop-turn-test.true c.in_ok-item.item c.in_ok-item.next.now c.in_ok-item.ensures c.in-Some.after.now (not_there _ c.past_end.result (nothing c.in_ok-item.next.now) c.past_end.ensures found) c.in-Some.ensures)

pub returns : goal.returns
returns c = names_run_out c.loop-turn.found (length c.args.tokens.now) c.loop-turn._turn c.loop-turn.rest.now _ c.loop-turn.invariant c.loop-turn-test.false
