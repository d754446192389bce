use Rattle.std.proofs.Common.{ap, ◌∙◌, length}
use Rattle.std.proofs.lemmas.Bool.{eqb-true}
use Rattle.std.proofs.lemmas.Result.{err_from_is_err_and}
use Rattle.gp_lex.specs.Chars.{Text}
use Rattle.gp_lex.specs.Pieces.{behind}
use Rattle.gp_lex.specs.code.Reading.{lines_of}
use Rattle.gp_lex.proofs.Turns.{start, goes_on, fails, over, done_all, is_some, less}
use Rattle.gp_lex.proofs.reader.lines_of.Goals as goal

pub loop-turn-init : goal.loop-turn-init
loop-turn-init c = rw (c.new-found.ensures, c.new-at.ensures) (start c.args.text.now)

pub returns-then-is_empty : goal.returns-then-is_empty
returns-then-is_empty c =
    over (length c.args.text.now) (lines_of c.args.text.now) c.at_end.result (length c.args.text.now) c.loop-turn._turn c.loop-turn.found c.loop-turn.at c.loop-turn.begun c.loop-turn.rest.now
    (eqb-true _ _ (cc)) c.at_end.ensures c.loop-turn.invariant

pub returns-in_err-kind : goal.returns-in_err-kind
returns-in_err-kind c =
    let p = err_from_is_err_and c.from_residual.result c.from_residual.ensures.1 in
    rw (p.1, p.2) (fails (length c.args.text.now) c.in_err-kind.field-0.0 (lines_of c.args.text.now) (length c.args.text.now) c.loop-turn._turn c.loop-turn.found c.loop-turn.at c.loop-turn.begun c.loop-turn.rest.now
    c.loop-turn-test.true (is_some c.loop-turn.rest.now (cc)) c.in_err-kind.ensures c.loop-turn.invariant)

pub overflow_sub-rest : goal.overflow_sub-rest
overflow_sub-rest c = less c.loop-turn.at c.loop-turn.rest.now c.in_ok-kind.next.now c.in_ok-kind.kind c.in_ok-kind.ensures

pub loop-turn-preserved : goal.loop-turn-preserved
loop-turn-preserved c =
    goes_on (length c.args.text.now) (lines_of c.args.text.now) (length c.args.text.now) c.loop-turn._turn c.loop-turn.found c.loop-turn.at c.loop-turn.begun c.loop-turn.rest.now c.in_ok-kind.next.now c.in_ok-kind.kind
    c.pass.new.found c.pass.new.at c.in_ok-begun.begun c.loop-turn-test.true (is_some c.loop-turn.rest.now (cc)) c.in_ok-kind.ensures
    (c.in_ok-begun.ensures.at ∙ ap (λ (z : Text). behind c.loop-turn.at z c.in_ok-kind.kind) c.split_at.ensures.front) c.in_ok-begun.ensures.begun c.in_ok-begun.ensures.found c.loop-turn.invariant

pub returns : goal.returns
returns c =
    done_all (length c.args.text.now) (lines_of c.args.text.now) c.at_end-2.result (length c.args.text.now) c.loop-turn._turn c.loop-turn.found c.loop-turn.at c.loop-turn.begun c.loop-turn.rest.now
    c.loop-turn-test.false c.at_end-2.ensures c.loop-turn.invariant
