use Rattle.std.proofs.Common.{◌∙◌, suc, ap, sym, map, option_map, drop, Some, None, arith}
use Rattle.std.proofs.lemmas.List.{length-map, get_or-map}
use Rattle.gp_base.specs.Run.{go_on}
use Rattle.gp_tree.specs.Expression.{expression}
use Rattle.gp_evaluator.specs.View.{value_view, variables_view, state}
use Rattle.gp_evaluator.proofs.Backs.{backs, back_some, back_none, backs_end, next_place, out_on}
use Rattle.gp_evaluator.proofs.Steps.{exits}
use Rattle.gp_evaluator.proofs.calls.put_back_each.Goals as goal
use Rattle.gp_evaluator.proofs.calls.put_back_each.Goals.{then-i-arguments+in-Some+in_ok-put_back, then-i-arguments+in_default, else-i-arguments}

pub returns-in_err-put_back : goal.returns-in_err-put_back
returns-in_err-put_back c =
    let es = map expression c.args.arguments.now in
    let finals = map (option_map value_view) c.args.finals.now in
    let long = length-map c.args.arguments.now expression in
    let many = length-map c.args.finals.now (option_map value_view) in
    let i = c.loop-i.i in
    let e = ap expression c.index-arguments-i.is ∙ sym (get_or-map expression c.args.arguments.now i c.index-arguments-i.result (expression c.index-arguments-i.result) c.if-i-arguments.true) in
    let value = value_view c.in-Some.value in
    let v = ap (option_map value_view) (sym c.in-Some.is ∙ c.index-finals-i.is) ∙ sym (get_or-map (option_map value_view) c.args.finals.now i c.index-finals-i.result (Some value) c.loop-i-test.true) in
    λ w.
    exits (λ u. u) c.from_residual.result (state (variables_view c.put_back.new.variables) w) (backs c.args.names.now es finals (state (variables_view c.args.variables.now) w)) c.in_err-put_back.field-0.0 c.from_residual.ensures.1
    (λ n. sym (c.loop-i.invariant w)
    ∙ back_some c.args.names.now es finals i (expression c.index-arguments-i.result) (value_view c.in-Some.value) (state (variables_view c.loop-i.variables) w) (omega (arith, long, c.if-i-arguments.true)) (omega (arith, many, c.loop-i-test.true)) e v
    ∙ ap (λ o. go_on o (λ _. backs c.args.names.now (drop (suc i) es) (drop (suc i) finals))) (c.in_err-put_back.ensures w n))

pub loop-i-preserved : goal.loop-i-preserved
loop-i-preserved c =
    let es = map expression c.args.arguments.now in
    let finals = map (option_map value_view) c.args.finals.now in
    let long = length-map c.args.arguments.now expression in
    let many = length-map c.args.finals.now (option_map value_view) in
    let i = c.loop-i.i in
    λ w.
    let s = state (variables_view c.loop-i.variables) w in
    next_place c.args.names.now es finals i (state (variables_view c.if-i-arguments.variables) w)
    ∙ elim c.if-i-arguments.branch [
      | then-i-arguments+in-Some+in_ok-put_back b ↦
          let value = value_view b.in-Some.value in
          let e = ap expression b.index-arguments-i.is ∙ sym (get_or-map expression c.args.arguments.now i b.index-arguments-i.result (expression b.index-arguments-i.result) b.if-i-arguments.true) in
          let v = ap (option_map value_view) (sym b.in-Some.is ∙ b.index-finals-i.is) ∙ sym (get_or-map (option_map value_view) c.args.finals.now i b.index-finals-i.result (Some value) c.loop-i-test.true) in
          ap (λ vs. backs c.args.names.now (drop (suc i) es) (drop (suc i) finals) (state (variables_view vs) w)) b.variables-is
          ∙ ap (λ o. go_on o (λ _. backs c.args.names.now (drop (suc i) es) (drop (suc i) finals))) (sym (b.in_ok-put_back.ensures w))
          ∙ sym (back_some c.args.names.now es finals i (expression b.index-arguments-i.result) value s (omega (arith, long, b.if-i-arguments.true)) (omega (arith, many, c.loop-i-test.true)) e v)
      | then-i-arguments+in_default b ↦
          let v = ap (option_map value_view) (sym b.in_default.is ∙ b.index-finals-i.is) ∙ sym (get_or-map (option_map value_view) c.args.finals.now i b.index-finals-i.result None c.loop-i-test.true) in
          ap (λ vs. backs c.args.names.now (drop (suc i) es) (drop (suc i) finals) (state (variables_view vs) w)) b.variables-is
          ∙ sym (back_none c.args.names.now es finals i s (omega (arith, long, b.if-i-arguments.true)) (omega (arith, many, c.loop-i-test.true)) v)
      | else-i-arguments b ↦
          ap (λ vs. backs c.args.names.now (drop (suc i) es) (drop (suc i) finals) (state (variables_view vs) w)) b.variables-is
          ∙ sym (next_place c.args.names.now es finals i s) ∙ out_on c.args.names.now es finals i s (omega (arith, long, b.if-i-arguments.false))
    ]
    ∙ c.loop-i.invariant w

pub returns : goal.returns
returns c =
    let es = map expression c.args.arguments.now in
    let finals = map (option_map value_view) c.args.finals.now in
    let many = length-map c.args.finals.now (option_map value_view) in
    λ w. sym (c.loop-i.invariant w) ∙ backs_end c.args.names.now es finals c.loop-i.i (state (variables_view c.loop-i.variables) w) (omega (arith, many, c.loop-i-test.false))
