use Rattle.std.proofs.Common.{◌≡◌, ◌∙◌, ap, sym, length, map, arith}
use Rattle.std.proofs.lemmas.List.{length-map, get_or-map}
use Rattle.gp_meaning.specs.State as spec
use Rattle.gp_evaluator.specs.View.{value_view, variables_view, state}
use Rattle.gp_evaluator.proofs.Assignments.{each_on, each_stops, each_ends, parts_are}
use Rattle.gp_evaluator.proofs.Steps.{exits}
use Rattle.gp_evaluator.proofs.variables.Variables.assign_parts.Goals as goal

pub returns-in_err-assign_place : goal.returns-in_err-assign_place
returns-in_err-assign_place c =
    let vs = map value_view c.args.parts.now in
    let long = length-map c.args.parts.now value_view in
    let same : length c.args.places.now ≡ length vs = omega (arith, long, c.if-places-parts.false) in
    let within = c.loop-i-test.true in
    let part = c.in_ok-part.ensures ∙ ap value_view c.index-parts-i.is ∙ sym (get_or-map value_view c.args.parts.now c.loop-i.i c.index-parts-i.result (value_view c.in_ok-part.part) (omega (arith, long, same, within))) in
    λ w.
    exits (λ u. u) c.from_residual-in_err-assign_place.result (state (variables_view c.assign_place.new.self) w) (spec.assign_parts c.args.names.now c.args.places.now vs (state (variables_view c.args.self.now) w)) c.in_err-assign_place.field-0.0 c.from_residual-in_err-assign_place.ensures.1
    (λ n. parts_are c.args.names.now c.args.places.now vs (state (variables_view c.args.self.now) w) same ∙ sym (c.loop-i.invariant w)
    ∙ each_stops c.args.names.now c.args.places.now vs c.loop-i.i c.index-places-i.result (value_view c.in_ok-part.part) (state (variables_view c.loop-i.self) w) within same c.index-places-i.is part _ (state (variables_view c.assign_place.new.self) w) (c.in_err-assign_place.ensures w n))

pub loop-i-preserved : goal.loop-i-preserved
loop-i-preserved c =
    let vs = map value_view c.args.parts.now in
    let long = length-map c.args.parts.now value_view in
    let same : length c.args.places.now ≡ length vs = omega (arith, long, c.if-places-parts.false) in
    let within = c.loop-i-test.true in
    let part = c.in_ok-part.ensures ∙ ap value_view c.index-parts-i.is ∙ sym (get_or-map value_view c.args.parts.now c.loop-i.i c.index-parts-i.result (value_view c.in_ok-part.part) (omega (arith, long, same, within))) in
    λ w.
    each_on c.args.names.now c.args.places.now vs c.loop-i.i c.index-places-i.result (value_view c.in_ok-part.part) (state (variables_view c.loop-i.self) w) within same c.index-places-i.is part (state (variables_view c.assign_place.new.self) w) (c.in_ok-assign_place.ensures w)
    ∙ c.loop-i.invariant w

pub returns : goal.returns
returns c =
    let vs = map value_view c.args.parts.now in
    let long = length-map c.args.parts.now value_view in
    let same : length c.args.places.now ≡ length vs = omega (arith, long, c.if-places-parts.false) in
    λ w. parts_are c.args.names.now c.args.places.now vs (state (variables_view c.args.self.now) w) same ∙ sym (c.loop-i.invariant w)
    ∙ each_ends c.args.names.now c.args.places.now vs c.loop-i.i (state (variables_view c.loop-i.self) w) c.loop-i-test.false
