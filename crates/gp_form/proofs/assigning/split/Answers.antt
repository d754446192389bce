use Rattle.std.proofs.Common.{◌+◌, List, take, Some, sym, ap, ◌∙◌}
use Rattle.gp_lex.specs.declared.token.Token.{Token}
use Rattle.gp_form.proofs.FormTurns.{split_start, split_stop, split_go_on, split_end, behind_place}
use Rattle.gp_form.proofs.assigning.split.Goals as goal

pub loop-place-init : goal.loop-place-init
loop-place-init c = split_start c.args.tokens.now

pub returns-in-Some : goal.returns-in-Some
returns-in-Some c =
    let ts = c.args.tokens.now in
    let at = c.loop-place.place in
    split_stop ts at _ c.loop-place.invariant c.index-tokens-place.result c.loop-place-test.true c.index-tokens-place.is c.in-Some.kind (sym c.in-Some.ensures)
    ∙ ap (λ (z : List Token). Some (take at ts, c.in-Some.kind, z)) (sym (behind_place ts (at + 1)))

pub loop-place-preserved : goal.loop-place-preserved
loop-place-preserved c = split_go_on c.args.tokens.now c.loop-place.place _ c.loop-place.invariant c.index-tokens-place.result c.loop-place-test.true c.index-tokens-place.is (sym c.in_default.ensures)

pub returns : goal.returns
returns c = split_end c.args.tokens.now c.loop-place.place _ c.loop-place.invariant c.loop-place-test.false
