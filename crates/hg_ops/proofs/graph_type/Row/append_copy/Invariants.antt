use Rattle.std.proofs.Common.{◌≡◌, ◌++◌, map, drop}
use Rattle.hg_ops.specs.TypeView.{type_view}
use Rattle.hg_ops.proofs.graph_type.Row.append_copy.Given as goal

-- the copies so far, and the types that are left
abbrev pub invariant-loop-k : goal.invariant-loop-k
invariant-loop-k l = map type_view l.self-inside.types.items ++ map type_view (drop l.k l.other-inside.types.items) ≡ l.fn.self ++ l.other
