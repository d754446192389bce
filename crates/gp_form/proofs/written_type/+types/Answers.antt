use Rattle.std.proofs.Common.{◌≡◌, ◌+◌, length, map, [], ◌∷◌, ◌++◌, refl, ap, arith}
use Rattle.std.proofs.lemmas.Result.{err_from_is_err_and}
use Rattle.std.proofs.lemmas.List.{map_push}
use Rattle.gp_form.proofs.ListTurns.{listed_start, listed_close, listed_fail, listed_end, listed_stop, listed_go_on, listed_run_out}
use Rattle.gp_lex.specs.declared.token.Symbol.TheVariants as symbol
use Rattle.gp_form.proofs.Turns.{deeper}
use Rattle.gp_form.specs.code.FormReading.{type_at, marked_type}
use Rattle.gp_form.specs.code.Steps.{past_symbol}
use Rattle.gp_tree.specs.TypeExpression.{type_expression, parameter_type}
use Rattle.gp_form.proofs.written_type.+types.Goals as goal

pub types-loop-turn-init : goal.types-loop-turn-init
types-loop-turn-init t c = rw c.new-found.ensures.items (listed_start (type_at c.args.depth) (past_symbol symbol.RightBracket) c.args.tokens.now (length c.args.tokens.now + 1) refl)

pub types-returns-in-Some : goal.types-returns-in-Some
types-returns-in-Some t c =
    listed_close (type_at c.args.depth) (past_symbol symbol.RightBracket) (map type_expression c.loop-turn.found.items) (length c.args.tokens.now + 1) c.loop-turn._turn c.loop-turn.rest.now _ c.loop-turn.invariant
    c.in-Some.after.now c.loop-turn-test.true c.in-Some.ensures

pub types-returns-in_err-item : goal.types-returns-in_err-item
types-returns-in_err-item t c =
    let p = err_from_is_err_and c.from_residual.result c.from_residual.ensures.1 in
    rw (p.1, p.2) (listed_fail (type_at c.args.depth) (past_symbol symbol.RightBracket) (map type_expression c.loop-turn.found.items) (length c.args.tokens.now + 1) c.loop-turn._turn c.loop-turn.rest.now _ c.loop-turn.invariant
    c.in_err-item.field-0.0 c.loop-turn-test.true c.in_default.ensures c.in_err-item.ensures)

pub types-returns-in-Some-past_symbol : goal.types-returns-in-Some-past_symbol
types-returns-in-Some-past_symbol t c =
    let pushed : map type_expression c.push.new.self.items ≡ map type_expression c.loop-turn.found.items ++ type_expression c.in_ok-item.item ∷ [] = rw c.in_ok-push.ensures.items (map_push _ c.loop-turn.found.items c.in_ok-item.item) in
    rw pushed (listed_end (type_at c.args.depth) (past_symbol symbol.RightBracket) (map type_expression c.loop-turn.found.items) (length c.args.tokens.now + 1) c.loop-turn._turn c.loop-turn.rest.now _ c.loop-turn.invariant
    c.loop-turn-test.true c.in_default.ensures (type_expression c.in_ok-item.item) c.in_ok-item.next.now c.in_ok-item.ensures c.in-Some-past_symbol.after.now c.in-Some-past_symbol.ensures)

pub types-returns-in_default-past_symbol-2 : goal.types-returns-in_default-past_symbol-2
types-returns-in_default-past_symbol-2 t c =
    listed_stop (type_at c.args.depth) (past_symbol symbol.RightBracket) (map type_expression c.loop-turn.found.items) (length c.args.tokens.now + 1) c.loop-turn._turn c.loop-turn.rest.now _ c.loop-turn.invariant
    c.loop-turn-test.true c.in_default.ensures (type_expression c.in_ok-item.item) c.in_ok-item.next.now c.in_ok-item.ensures c.in_default-past_symbol.ensures c.in_default-past_symbol-2.ensures

pub types-loop-turn-preserved : goal.types-loop-turn-preserved
types-loop-turn-preserved t c =
    let pushed : map type_expression c.push.new.self.items ≡ map type_expression c.loop-turn.found.items ++ type_expression c.in_ok-item.item ∷ [] = rw c.in_ok-push.ensures.items (map_push _ c.loop-turn.found.items c.in_ok-item.item) in
    rw pushed (listed_go_on (type_at c.args.depth) (past_symbol symbol.RightBracket) (map type_expression c.loop-turn.found.items) (length c.args.tokens.now + 1) c.loop-turn._turn c.loop-turn.rest.now _ c.loop-turn.invariant
    c.loop-turn-test.true c.in_default.ensures (type_expression c.in_ok-item.item) c.in_ok-item.next.now c.in_ok-item.ensures c.in-Some-past_symbol-2.after.now c.in_default-past_symbol.ensures c.in-Some-past_symbol-2.ensures)

pub types-returns : goal.types-returns
types-returns t c = listed_run_out (type_at c.args.depth) (past_symbol symbol.RightBracket) (map type_expression c.loop-turn.found.items) (length c.args.tokens.now + 1) c.loop-turn._turn c.loop-turn.rest.now _ c.loop-turn.invariant c.loop-turn-test.false

pub marked_types-loop-turn-init : goal.marked_types-loop-turn-init
marked_types-loop-turn-init t c = rw c.new-found.ensures.items (listed_start (marked_type (type_at c.args.depth)) (past_symbol symbol.RightBracket) c.args.tokens.now (length c.args.tokens.now + 1) refl)

pub marked_types-returns-in-Some : goal.marked_types-returns-in-Some
marked_types-returns-in-Some t c =
    listed_close (marked_type (type_at c.args.depth)) (past_symbol symbol.RightBracket) (map parameter_type c.loop-turn.found.items) (length c.args.tokens.now + 1) c.loop-turn._turn c.loop-turn.rest.now _ c.loop-turn.invariant
    c.in-Some.after.now c.loop-turn-test.true c.in-Some.ensures

pub marked_types-returns-in_err-item : goal.marked_types-returns-in_err-item
marked_types-returns-in_err-item t c =
    let p = err_from_is_err_and c.from_residual.result c.from_residual.ensures.1 in
    rw (p.1, p.2) (listed_fail (marked_type (type_at c.args.depth)) (past_symbol symbol.RightBracket) (map parameter_type c.loop-turn.found.items) (length c.args.tokens.now + 1) c.loop-turn._turn c.loop-turn.rest.now _ c.loop-turn.invariant
    c.in_err-item.field-0.0 c.loop-turn-test.true c.in_default.ensures c.in_err-item.ensures)

pub marked_types-returns-in-Some-past_symbol : goal.marked_types-returns-in-Some-past_symbol
marked_types-returns-in-Some-past_symbol t c =
    let pushed : map parameter_type c.push.new.self.items ≡ map parameter_type c.loop-turn.found.items ++ parameter_type c.in_ok-item.item ∷ [] = rw c.in_ok-push.ensures.items (map_push _ c.loop-turn.found.items c.in_ok-item.item) in
    rw pushed (listed_end (marked_type (type_at c.args.depth)) (past_symbol symbol.RightBracket) (map parameter_type c.loop-turn.found.items) (length c.args.tokens.now + 1) c.loop-turn._turn c.loop-turn.rest.now _ c.loop-turn.invariant
    c.loop-turn-test.true c.in_default.ensures (parameter_type c.in_ok-item.item) c.in_ok-item.next.now c.in_ok-item.ensures c.in-Some-past_symbol.after.now c.in-Some-past_symbol.ensures)

pub marked_types-returns-in_default-past_symbol-2 : goal.marked_types-returns-in_default-past_symbol-2
marked_types-returns-in_default-past_symbol-2 t c =
    listed_stop (marked_type (type_at c.args.depth)) (past_symbol symbol.RightBracket) (map parameter_type c.loop-turn.found.items) (length c.args.tokens.now + 1) c.loop-turn._turn c.loop-turn.rest.now _ c.loop-turn.invariant
    c.loop-turn-test.true c.in_default.ensures (parameter_type c.in_ok-item.item) c.in_ok-item.next.now c.in_ok-item.ensures c.in_default-past_symbol.ensures c.in_default-past_symbol-2.ensures

pub marked_types-loop-turn-preserved : goal.marked_types-loop-turn-preserved
marked_types-loop-turn-preserved t c =
    let pushed : map parameter_type c.push.new.self.items ≡ map parameter_type c.loop-turn.found.items ++ parameter_type c.in_ok-item.item ∷ [] = rw c.in_ok-push.ensures.items (map_push _ c.loop-turn.found.items c.in_ok-item.item) in
    rw pushed (listed_go_on (marked_type (type_at c.args.depth)) (past_symbol symbol.RightBracket) (map parameter_type c.loop-turn.found.items) (length c.args.tokens.now + 1) c.loop-turn._turn c.loop-turn.rest.now _ c.loop-turn.invariant
    c.loop-turn-test.true c.in_default.ensures (parameter_type c.in_ok-item.item) c.in_ok-item.next.now c.in_ok-item.ensures c.in-Some-past_symbol-2.after.now c.in_default-past_symbol.ensures c.in-Some-past_symbol-2.ensures)

pub marked_types-returns : goal.marked_types-returns
marked_types-returns t c = listed_run_out (marked_type (type_at c.args.depth)) (past_symbol symbol.RightBracket) (map parameter_type c.loop-turn.found.items) (length c.args.tokens.now + 1) c.loop-turn._turn c.loop-turn.rest.now _ c.loop-turn.invariant c.loop-turn-test.false

pub type_at-returns-then-depth-eq0 : goal.type_at-returns-then-depth-eq0
unfolding type_at
type_at-returns-then-depth-eq0 t c = let none : c.args.depth ≡ 0 = omega arith in ap (λ n. type_at n c.args.tokens.now) none

pub type_at-returns : goal.type_at-returns
unfolding type_at
type_at-returns t c = rw (deeper (λ n. type_at n c.args.tokens.now) c.args.depth (omega arith)) c.type_with.ensures
