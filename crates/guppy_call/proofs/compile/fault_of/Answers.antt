use Rattle.std.proofs.Common.{◌≡◌, length, position, Some, arith, ap, sym, ◌∙◌}
use Rattle.guppy_call.specs.Compile.{is_discard, given_up_at}
use Rattle.guppy_call.proofs.Discards.{position-gate_lines, position-discard, last_is_discard, length-spent_lines, length-complete_lines}
use Rattle.guppy_call.proofs.compile.fault_of.Goals as goal

pub returns-in_default-clause-given_up : goal.returns-in_default-clause-given_up
returns-in_default-clause-given_up c gates next more e = absurd (c.in_default.not-Some _ (c.first_discard.ensures ∙ position-discard _ gates _ (c.as_slice.ensures ∙ e)))

pub returns-in_default-clause-complete : goal.returns-in_default-clause-complete
returns-in_default-clause-complete c gates e = absurd (c.in_default.not-Some _ (c.first_discard.ensures ∙ position-discard _ gates _ (c.as_slice.ensures ∙ e)))

pub returns-then-after-len-clause-given_up : goal.returns-then-after-len-clause-given_up
returns-then-after-len-clause-given_up c gates next more e =
    let at = position-discard _ gates _ (c.as_slice.ensures ∙ e) in
    let same : c.in-Some.place ≡ length gates = cc in
    let long = length-spent_lines _ gates next more e in
    absurd (omega arith)

pub returns-then-after-len-clause-held_at_return : goal.returns-then-after-len-clause-held_at_return
returns-then-after-len-clause-held_at_return c gates e = let at = position-gate_lines _ gates (c.as_slice.ensures ∙ e) in absurd cc

pub returns-then-after-len-clause-faultless : goal.returns-then-after-len-clause-faultless
returns-then-after-len-clause-faultless c =
    last_is_discard _ c.in-Some.place (sym (c.first_discard.ensures ∙ ap (position is_discard) c.as_slice.ensures) ∙ c.in-Some.is) (omega arith)

pub returns-clause-given_up : goal.returns-clause-given_up
returns-clause-given_up c gates next more e =
    let at = position-discard _ gates _ (c.as_slice.ensures ∙ e) in
    let same : c.in-Some.place ≡ length gates = cc in
    ap (λ n. Some (given_up_at n)) (omega arith)

pub returns-clause-held_at_return : goal.returns-clause-held_at_return
returns-clause-held_at_return c gates e = let at = position-gate_lines _ gates (c.as_slice.ensures ∙ e) in absurd cc

pub returns-clause-complete : goal.returns-clause-complete
returns-clause-complete c gates e =
    let at = position-discard _ gates _ (c.as_slice.ensures ∙ e) in
    let same : c.in-Some.place ≡ length gates = cc in
    let long = length-complete_lines _ gates e in
    absurd (omega arith)
