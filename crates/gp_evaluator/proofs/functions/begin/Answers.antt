use Rattle.std.proofs.Common.{◌∙◌, ◌+◌, ap, sym, map, drop, arith}
use Rattle.std.proofs.lemmas.List.{length-map, get_or-map}
use Rattle.gp_types.specs.Signature.{parameter_view, parameter_names}
use Rattle.gp_meaning.specs.State.{set, set_each}
use Rattle.gp_evaluator.specs.View.{value_view, variables_view}
use Rattle.gp_evaluator.proofs.FunctionSteps.{set_more, set_out}
use Rattle.gp_evaluator.proofs.functions.begin.Goals as goal
use Rattle.gp_evaluator.proofs.functions.begin.Goals.{then-i-values+in_ok-value, else-i-values}

pub loop-i-preserved : goal.loop-i-preserved
loop-i-preserved c =
    let ps = map parameter_view c.args.params.now in
    let vs = map value_view c.args.values.now in
    let long = length-map c.args.params.now parameter_view in
    let many = length-map c.args.values.now value_view in
    let i = c.loop-i.i in
    let s = variables_view c.loop-i.variables in
    elim c.if-i-values.branch [
      | then-i-values+in_ok-value w ↦
          let p = parameter_view w.index-params-i.result in
          let v = value_view w.in_ok-value.value in
          set_more c.args.names.now s (variables_view c.if-i-values.variables) ps vs i p v
          (omega (arith, long, c.loop-i-test.true)) (omega (arith, many, w.if-i-values.true))
          (ap parameter_view w.index-params-i.is ∙ sym (get_or-map parameter_view c.args.params.now i w.index-params-i.result p c.loop-i-test.true))
          (w.in_ok-value.ensures ∙ ap value_view w.index-values-i.is ∙ sym (get_or-map value_view c.args.values.now i w.index-values-i.result v w.if-i-values.true))
          (ap variables_view w.variables-is ∙ w.set.ensures ∙ ap (λ n. set c.args.names.now s n v) (w.as_str.ensures ∙ ap (λ x. x.name) (sym w.index-params-i.is)))
          ∙ c.loop-i.invariant
      | else-i-values w ↦
          ap (λ x. set_each c.args.names.now (variables_view x) (parameter_names (drop (i + 1) ps)) (drop (i + 1) vs)) w.variables-is
          ∙ set_out c.args.names.now s ps vs (i + 1) (omega (arith, many, w.if-i-values.false)) ∙ sym (set_out c.args.names.now s ps vs i (omega (arith, many, w.if-i-values.false))) ∙ c.loop-i.invariant
    ]
