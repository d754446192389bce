use Rattle.std.proofs.Common.{◌≡◌, take, map}
use Rattle.hg_ops.specs.TypeView.{type_view}
use Rattle.hg_ops.proofs.graph_type.+same.Given as goal

-- the types so far are the same
abbrev pub invariant-same_types-loop-k : goal.invariant-same_types-loop-k
invariant-same_types-loop-k l = map type_view (take l.k l.ones) ≡ map type_view (take l.k l.others)

abbrev pub invariant-Rows::is_same-loop-k : goal.invariant-Rows::is_same-loop-k
invariant-Rows::is_same-loop-k l = take l.k l.self ≡ take l.k l.other
