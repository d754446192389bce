use Rattle.std.proofs.Common.{◌≡◌, ◌++◌, map, drop}
use Rattle.hg_ops.specs.TypeView.{type_view}
use Rattle.hg_ops.proofs.graph_type.+copying.Given as goal

-- the copies so far, and the types that are left
abbrev pub invariant-Row::copy-loop-k : goal.invariant-Row::copy-loop-k
invariant-Row::copy-loop-k l = map type_view l.types.items ++ map type_view (drop l.k l.self-inside.types.items) ≡ l.self

abbrev pub invariant-Rows::copy-loop-k : goal.invariant-Rows::copy-loop-k
invariant-Rows::copy-loop-k l = l.rows.items ++ drop l.k l.self ≡ l.self
