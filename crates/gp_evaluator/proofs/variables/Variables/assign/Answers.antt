use Rattle.std.proofs.Common.{◌∙◌, ap, sym, map}
use Rattle.gp_base.specs.Run.{◌>>=◌, or_stuck}
use Rattle.gp_meaning.specs.State as spec
use Rattle.gp_meaning.specs.Value.{parts_of}
use Rattle.gp_evaluator.specs.View.{value_view, values_view, variables_view, state}
use Rattle.gp_evaluator.proofs.Assignments.{listed_of}
use Rattle.gp_evaluator.proofs.Steps.{ends}
use Rattle.gp_evaluator.proofs.Views.{tuple_view}
use Rattle.gp_evaluator.proofs.variables.Variables.assign.Goals as goal

pub returns-in-Tuple : goal.returns-in-Tuple
returns-in-Tuple c =
    λ w.
    let s = state (variables_view c.args.self.now) w in
    ends (λ u. u) c.assign_parts.result (state (variables_view c.assign_parts.new.self) w) (spec.assign c.args.names.now c.args.targets.now (value_view c.args.value) s)
    (spec.assign_parts c.args.names.now c.as_slice.result.now (values_view c.deref.result.now) s)
    (ap (λ t. spec.assign c.args.names.now t (value_view c.args.value) s) c.in-Pattern.is
    ∙ ap (λ v. (or_stuck (parts_of v) >>= spec.assign_parts c.args.names.now c.in-Pattern.places) s) (ap value_view c.in-Tuple.is ∙ tuple_view c.in-Tuple.parts)
    ∙ ap (λ vs. spec.assign_parts c.args.names.now c.in-Pattern.places vs s) (listed_of (map value_view c.in-Tuple.parts.items))
    ∙ ap (λ vs. spec.assign_parts c.args.names.now c.in-Pattern.places (map value_view vs) s) (sym c.deref.ensures.value)
    ∙ ap (λ ps. spec.assign_parts c.args.names.now ps (values_view c.deref.result.now) s) (sym c.as_slice.ensures))
    (c.assign_parts.ensures w)
