use Rattle.std.proofs.Common.{◌≡◌, ◌++◌, map, drop}
use Rattle.serde_json.specs.View.{view as seen}
use Rattle.hg_ops.specs.TypeView.{type_view}
use Rattle.hg_json.specs.GraphText.{type_data}
use Rattle.hg_json.proofs.values.row_value.Given as goal

-- the values so far, and those that are left
abbrev pub invariant-loop-k : goal.invariant-loop-k
invariant-loop-k l = map seen l.items.items ++ map type_data (map type_view (drop l.k l.types)) ≡ map type_data (map type_view l.types)
