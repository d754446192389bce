use Rattle.std.proofs.Common.{rules, [], ◌∷◌}
use Rattle.hg_graph.specs.Thin.{H, X}
use Rattle.hg_tests.proofs.lower_tests.passes_the_qubit_through_gates.Goals as goal

pub lower_thin-requires : goal.lower_thin-requires
lower_thin-requires g c = (H ∷ X ∷ [], search rules)
