use Rattle.std.proofs.Common.{map, option_map}
use Rattle.gp_types.specs.Signature.{parameter_view}
use Rattle.gp_meaning.specs.Meaning.{finals_of}
use Rattle.gp_evaluator.specs.View.{value_view, variables_view}
use Rattle.gp_evaluator.proofs.FunctionSteps.{finals_none}
use Rattle.gp_evaluator.proofs.Steps.{found_exits}
use Rattle.gp_evaluator.proofs.functions.final_values.Goals as goal

pub returns-in_err-value : goal.returns-in_err-value
returns-in_err-value c =
    let vs = variables_view c.args.variables.now in
    let whole = finals_of c.args.names.now (map parameter_view c.args.params.now) vs in
    found_exits (λ made. map (option_map value_view) made.items) c.from_residual.result whole c.in_err-value.field-0.0 c.from_residual.ensures.1
    (λ n. let e = c.in_err-value.ensures n in (
      e.0,
      finals_none c.args.names.now c.args.params.now vs whole (map (option_map value_view) c.loop-param.finals.items) c.loop-param.param-index c.loop-param.invariant
          c.param-item.result c.loop-param-test.true c.param-item.is e.1,
    ))
