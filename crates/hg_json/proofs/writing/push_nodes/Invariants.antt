use Rattle.std.proofs.Common.{◌≡◌, ◌++◌, drop, false, nat_lt}
use Rattle.serde_json.specs.Written.{items_text}
use Rattle.hg_json.specs.GraphText.{array_of, node_data}
use Rattle.hg_json.proofs.writing.push_nodes.Given as goal

abbrev pub invariant-loop-number : goal.invariant-loop-number
invariant-loop-number l =
    l.out.items ++ items_text (nat_lt 0 l.number) (array_of node_data (drop l.number l.graph.nodes)) ≡ l.initial.out.items ++ items_text false (array_of node_data l.graph.nodes)
