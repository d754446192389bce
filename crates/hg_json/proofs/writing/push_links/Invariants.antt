use Rattle.std.proofs.Common.{◌≡◌, ◌++◌, drop, false, nat_lt}
use Rattle.serde_json.specs.Written.{items_text}
use Rattle.hg_json.specs.GraphText.{array_of, link_data}
use Rattle.hg_json.proofs.writing.push_links.Given as goal

abbrev pub invariant-loop-k : goal.invariant-loop-k
invariant-loop-k l =
    l.out.items ++ items_text (nat_lt 0 l.k) (array_of link_data (drop l.k l.graph.links)) ≡ l.initial.out.items ++ items_text false (array_of link_data l.graph.links)
