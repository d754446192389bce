use Rattle.std.proofs.Common.{◌∙◌, ap, sym}
use Rattle.gp_meaning.specs.State as spec
use Rattle.gp_meaning.specs.Value.{at_path}
use Rattle.gp_evaluator.specs.View.{variables_view}
use Rattle.gp_evaluator.proofs.Paths.{path_none}
use Rattle.gp_evaluator.proofs.variables.Variables.value_at.Goals as goal

pub returns-in_err-get : goal.returns-in_err-get
returns-in_err-get c =
    rw c.from_residual.ensures
    (sym (path_none c.args.place.now.fields) ∙ ap (λ o. at_path o c.args.place.now.fields) (c.in_err-get.ensures ∙ ap (spec.variable c.args.names.now (variables_view c.args.self.now)) c.as_str.ensures))
