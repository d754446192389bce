use Rattle.std.proofs.Common.{ℕ, ◌<◌}
use Rattle.hg_graph.specs.Valid.{Keeps}
use Rattle.hg_valid.specs.code.RuleView.{node_rule_view}
use Rattle.hg_valid.proofs.nodes.first_node.Given as goal

abbrev pub invariant-loop-n : goal.invariant-loop-n
invariant-loop-n l = (m : ℕ) → m < l.n → Keeps l.graph (node_rule_view l.rule) m
