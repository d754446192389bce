use Rattle.std.proofs.Common.{◌≡◌, ap, arith, rules, length, map, [], ◌∷◌, ◌++◌}
use Rattle.std.proofs.lemmas.Result.{err_from_is_err_and}
use Rattle.std.proofs.lemmas.List.{map_push}
use Rattle.std.proofs.lemmas.Grind.{common_steps}
use Rattle.gp_form.specs.code.Reading.{chain, chain_from, items, read, level, tighter}
use Rattle.gp_form.proofs.Turns.{one_more, no_more, deeper, items_close, items_fail, items_end, items_stop, items_go_on, items_run_out, items_close_last}
use Rattle.gp_form.proofs.expression.+parser.Goals as goal
use Rattle.gp_tree.specs.Expression.{expression}

pub deeper-returns-then-depth-eq0 : goal.deeper-returns-then-depth-eq0
unfolding read
deeper-returns-then-depth-eq0 t c = let none : c.args.depth ≡ 0 = omega arith in ap (λ n. read n c.args.at c.args.tokens.now) none

pub deeper-returns : goal.deeper-returns
unfolding read
deeper-returns t c = rw (deeper (λ n. read n c.args.at c.args.tokens.now) c.args.depth (omega arith)) c.level.ensures

pub chain-returns-in_err-left : goal.chain-returns-in_err-left
unfolding chain
chain-returns-in_err-left t c = first_of (search rules, grind (arith, common_steps))

pub chain-loop-turn-init : goal.chain-loop-turn-init
unfolding chain
chain-loop-turn-init t c = first_of (search rules, grind (arith, common_steps))

pub chain-returns-in_default : goal.chain-returns-in_default
unfolding chain_from
chain-returns-in_default t c =
    let e = one_more (λ n. chain_from c.args.at (level (read c.args.depth) (tighter c.args.at)) n (expression c.loop-turn.left) c.loop-turn.rest.now) _ c.loop-turn._turn c.loop-turn-test.true c.loop-turn.invariant in
    first_of (search rules, grind (arith, common_steps))

pub chain-returns-in_err-right : goal.chain-returns-in_err-right
unfolding chain_from
chain-returns-in_err-right t c =
    let e = one_more (λ n. chain_from c.args.at (level (read c.args.depth) (tighter c.args.at)) n (expression c.loop-turn.left) c.loop-turn.rest.now) _ c.loop-turn._turn c.loop-turn-test.true c.loop-turn.invariant in
    first_of (search rules, grind (arith, common_steps))

pub chain-loop-turn-preserved : goal.chain-loop-turn-preserved
unfolding chain_from
chain-loop-turn-preserved t c =
    let e = one_more (λ n. chain_from c.args.at (level (read c.args.depth) (tighter c.args.at)) n (expression c.loop-turn.left) c.loop-turn.rest.now) _ c.loop-turn._turn c.loop-turn-test.true c.loop-turn.invariant in
    first_of (search rules, grind (arith, common_steps))

pub chain-returns : goal.chain-returns
unfolding chain_from
chain-returns t c =
    let e = no_more (λ n. chain_from c.args.at (level (read c.args.depth) (tighter c.args.at)) n (expression c.loop-turn.left) c.loop-turn.rest.now) _ c.loop-turn._turn c.loop-turn-test.false c.loop-turn.invariant in
    first_of (search rules, grind (arith, common_steps))

pub items-loop-turn-init : goal.items-loop-turn-init
unfolding items
items-loop-turn-init t c = first_of (search rules, grind (arith, common_steps))

pub items-returns-in-Some : goal.items-returns-in-Some
items-returns-in-Some t c =
    items_close (read c.args.depth) c.args.end (map expression c.loop-turn.found.items) (length c.args.tokens.now) c.loop-turn._turn c.loop-turn.rest.now _ c.loop-turn.invariant
    c.in-Some.after.now c.loop-turn-test.true c.in-Some.ensures

pub items-returns-in_err-item : goal.items-returns-in_err-item
items-returns-in_err-item t c =
    let p = err_from_is_err_and c.from_residual.result c.from_residual.ensures.1 in
    rw (p.1, p.2) (items_fail (read c.args.depth) c.args.end (map expression c.loop-turn.found.items) (length c.args.tokens.now) c.loop-turn._turn c.loop-turn.rest.now _ c.loop-turn.invariant
    c.in_err-item.field-0.0 c.loop-turn-test.true c.in_default.ensures c.in_err-item.ensures)

pub items-returns-in-Some-past_end : goal.items-returns-in-Some-past_end
items-returns-in-Some-past_end t c =
    let pushed : map expression c.push.new.self.items ≡ map expression c.loop-turn.found.items ++ expression c.in_ok-item.item ∷ [] = rw c.in_ok-push.ensures.items (map_push _ c.loop-turn.found.items c.in_ok-item.item) in
    rw pushed (items_end (read c.args.depth) c.args.end (map expression c.loop-turn.found.items) (length c.args.tokens.now) c.loop-turn._turn c.loop-turn.rest.now _ c.loop-turn.invariant
    c.loop-turn-test.true c.in_default.ensures (expression c.in_ok-item.item) c.in_ok-item.next.now c.in_ok-item.ensures c.in-Some-past_end.after.now c.in-Some-past_end.ensures)

pub items-returns-in_default-past_symbol : goal.items-returns-in_default-past_symbol
items-returns-in_default-past_symbol t c =
    items_stop (read c.args.depth) c.args.end (map expression c.loop-turn.found.items) (length c.args.tokens.now) c.loop-turn._turn c.loop-turn.rest.now _ c.loop-turn.invariant
    c.loop-turn-test.true c.in_default.ensures (expression c.in_ok-item.item) c.in_ok-item.next.now c.in_ok-item.ensures c.in_default-past_end.ensures c.in_default-past_symbol.ensures

pub items-loop-turn-preserved : goal.items-loop-turn-preserved
items-loop-turn-preserved t c =
    let pushed : map expression c.push.new.self.items ≡ map expression c.loop-turn.found.items ++ expression c.in_ok-item.item ∷ [] = rw c.in_ok-push.ensures.items (map_push _ c.loop-turn.found.items c.in_ok-item.item) in
    rw pushed (items_go_on (read c.args.depth) c.args.end (map expression c.loop-turn.found.items) (length c.args.tokens.now) c.loop-turn._turn c.loop-turn.rest.now _ c.loop-turn.invariant
    c.loop-turn-test.true c.in_default.ensures (expression c.in_ok-item.item) c.in_ok-item.next.now c.in_ok-item.ensures c.in-Some-past_symbol.after.now c.in_default-past_end.ensures c.in-Some-past_symbol.ensures)

pub items-returns-in-Some-past_end-2 : goal.items-returns-in-Some-past_end-2
items-returns-in-Some-past_end-2 t c =
    items_close_last (read c.args.depth) c.args.end (map expression c.loop-turn.found.items) (length c.args.tokens.now) c.loop-turn._turn c.loop-turn.rest.now _ c.loop-turn.invariant
    c.in-Some-past_end-2.after.now c.loop-turn-test.false c.in-Some-past_end-2.ensures

pub items-returns : goal.items-returns
items-returns t c =
    items_run_out (read c.args.depth) c.args.end (map expression c.loop-turn.found.items) (length c.args.tokens.now) c.loop-turn._turn c.loop-turn.rest.now _ c.loop-turn.invariant c.loop-turn-test.false c.in-None.ensures
