use Rattle.std.proofs.Common.{◌∙◌, ap, sym}
use Rattle.gp_meaning.specs.Calls as spec
use Rattle.gp_meaning.specs.State.{assign_place}
use Rattle.gp_evaluator.specs.View.{value_view, variables_view, state}
use Rattle.gp_tree.specs.Expression.{expression}
use Rattle.gp_evaluator.proofs.Steps.{ends}
use Rattle.gp_evaluator.proofs.Texts.{as_place}
use Rattle.gp_evaluator.proofs.calls.put_back.Goals as goal

pub returns-in_ok-value-in-Place : goal.returns-in_ok-value-in-Place
returns-in_ok-value-in-Place c =
    λ w.
    let s = state (variables_view c.args.variables.now) w in
    ends (λ u. u) c.assign_place.result (state (variables_view c.assign_place.new.self) w) (spec.put_back c.args.names.now (expression c.args.argument.now) (value_view c.args.value.now) s)
    (assign_place c.args.names.now c.in-Place.place (value_view c.in_ok-value-in-Place.value) s)
    (ap (λ e. spec.put_back c.args.names.now e (value_view c.args.value.now) s) (as_place c.args.argument.now c.in-Place.place c.in-Place.is)
    ∙ ap (λ v. assign_place c.args.names.now c.in-Place.place v s) (sym c.in_ok-value-in-Place.ensures))
    (c.assign_place.ensures w)
