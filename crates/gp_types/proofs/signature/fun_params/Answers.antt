use Rattle.std.proofs.Common.{◌∙◌, ap, map}
use Rattle.std.proofs.lemmas.List.{take_all}
use Rattle.gp_types.specs.Signature.{fun_param, parameter_view}
use Rattle.gp_types.specs.Types.{params_of}
use Rattle.gp_types.proofs.FunctionTypes.{params_row}
use Rattle.gp_types.proofs.signature.fun_params.Goals as goal

pub returns : goal.returns
returns c =
    ap params_of (c.loop-param.invariant ∙ ap (map (λ p. fun_param (parameter_view p))) (take_all c.loop-param.param-index c.args.params.now c.loop-param-test.false))
    ∙ params_row parameter_view c.args.params.now
