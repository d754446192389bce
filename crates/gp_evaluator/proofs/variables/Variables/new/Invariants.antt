use Rattle.std.proofs.Common.{◌≡◌, map, take, option_map}
use Rattle.gp_meaning.specs.State.{no_variables}
use Rattle.gp_evaluator.specs.View.{value_view}
use Rattle.gp_evaluator.proofs.variables.Variables.new.Given as goal

-- an entry for each name so far
abbrev pub invariant-loop-name : goal.invariant-loop-name
invariant-loop-name l = map (option_map value_view) l.values.items ≡ no_variables (take l._name-index l._name-items)
