use Rattle.std.proofs.Common.{◌≡◌, ℕ, List, ◌||◌, drop}
use Rattle.gp_scope.specs.Tables.{texts_of}
use Rattle.gp_tree.specs.TypeExpression.{type_expressions, parameter_types}
use Rattle.gp_scope.specs.Checks.{is_among}
use Rattle.gp_scope.specs.Cycles as spec
use Rattle.gp_scope.proofs.cycles.+names.Given as goal

-- a name is in the list, or in what is left
abbrev pub invariant-add_all_names-loop-item : goal.invariant-add_all_names-loop-item
invariant-add_all_names-loop-item l = (q : List ℕ) →
    (is_among q (texts_of l.held.items) || spec.some_mentions (type_expressions (drop l.item-index l.items)) q)
    ≡ (is_among q (texts_of l.initial.held.items) || spec.some_mentions (type_expressions l.items) q)

abbrev pub invariant-add_params_names-loop-param : goal.invariant-add_params_names-loop-param
invariant-add_params_names-loop-param l = (q : List ℕ) →
    (is_among q (texts_of l.held.items) || spec.params_mention (parameter_types (drop l.param-index l.params)) q)
    ≡ (is_among q (texts_of l.initial.held.items) || spec.params_mention (parameter_types l.params) q)
