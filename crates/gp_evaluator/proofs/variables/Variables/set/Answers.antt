use Rattle.std.proofs.Common.{◌∙◌, ap}
use Rattle.gp_meaning.specs.State as spec
use Rattle.gp_evaluator.specs.View.{value_view, variables_view}
use Rattle.gp_evaluator.proofs.Entries.{entry_set}
use Rattle.gp_evaluator.proofs.variables.Variables.set.Goals as goal

pub returns-then-position-len : goal.returns-then-position-len
returns-then-position-len c =
    entry_set value_view c.args.self.now.values.items c.in-Some.position c.args.value ∙ ap (λ place. spec.set_at (variables_view c.args.self.now) place (value_view c.args.value)) c.in-Some.ensures
