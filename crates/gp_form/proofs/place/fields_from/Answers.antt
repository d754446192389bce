use Rattle.std.proofs.Common.{arith, rules}
use Rattle.std.proofs.lemmas.Grind.{common_steps}
use Rattle.gp_form.specs.code.Reading.{fields_from}
use Rattle.gp_form.proofs.Turns.{one_more, no_more}
use Rattle.gp_form.proofs.place.fields_from.Goals as goal

pub returns-in_default : goal.returns-in_default
unfolding fields_from
returns-in_default c =
    let e = one_more (λ n. fields_from n c.loop-turn.fields c.loop-turn.rest.now) _ c.loop-turn._turn c.loop-turn-test.true c.loop-turn.invariant in
    first_of (search rules, grind (arith, common_steps))

pub returns-in_default-past_name : goal.returns-in_default-past_name
unfolding fields_from
returns-in_default-past_name c =
    let e = one_more (λ n. fields_from n c.loop-turn.fields c.loop-turn.rest.now) _ c.loop-turn._turn c.loop-turn-test.true c.loop-turn.invariant in
    first_of (search rules, grind (arith, common_steps))

pub loop-turn-preserved : goal.loop-turn-preserved
unfolding fields_from
loop-turn-preserved c =
    let e = one_more (λ n. fields_from n c.loop-turn.fields c.loop-turn.rest.now) _ c.loop-turn._turn c.loop-turn-test.true c.loop-turn.invariant in
    first_of (search rules, grind (arith, common_steps))

pub returns : goal.returns
unfolding fields_from
returns c =
    let e = no_more (λ n. fields_from n c.loop-turn.fields c.loop-turn.rest.now) _ c.loop-turn._turn c.loop-turn-test.false c.loop-turn.invariant in
    first_of (search rules, grind (arith, common_steps))
