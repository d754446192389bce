use Rattle.std.proofs.Common.{None, ap, map, option_map}
use Rattle.gp_types.specs.Signature.{parameter_view}
use Rattle.gp_evaluator.specs.Evaluation.{completion_view}
use Rattle.gp_meaning.specs.Meaning.{ends_by, returns}
use Rattle.gp_evaluator.specs.View.{value_view, variables_view, called_view, state}
use Rattle.gp_evaluator.proofs.Steps.{ends}
use Rattle.gp_evaluator.proofs.functions.leave.Goals as goal

pub returns-in-Normal : goal.returns-in-Normal
returns-in-Normal c =
    λ w.
    let s = state (variables_view c.args.variables.now) w in
    let ps = map parameter_view c.args.params.now in
    ends called_view c.leave_with.result s (ends_by c.args.names.now ps (completion_view c.args.completion) s) (returns c.args.names.now ps None s)
    (ap (λ f. ends_by c.args.names.now ps (completion_view f) s) c.in-Normal.is) (c.leave_with.ensures w)

pub returns-in-Return : goal.returns-in-Return
returns-in-Return c =
    λ w.
    let s = state (variables_view c.args.variables.now) w in
    let ps = map parameter_view c.args.params.now in
    ends called_view c.leave_with-in-Return.result s (ends_by c.args.names.now ps (completion_view c.args.completion) s) (returns c.args.names.now ps (option_map value_view c.in-Return.answer) s)
    (ap (λ f. ends_by c.args.names.now ps (completion_view f) s) c.in-Return.is) (c.leave_with-in-Return.ensures w)
