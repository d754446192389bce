use Rattle.std.proofs.Common.{◌≡◌, ◌++◌, map, drop}
use Rattle.serde_json.specs.View.{view as seen}
use Rattle.hg_json.specs.GraphText.{row_data}
use Rattle.hg_json.proofs.values.rows_value.Given as goal

-- the values so far, and those that are left
abbrev pub invariant-loop-k : goal.invariant-loop-k
invariant-loop-k l = map seen l.items.items ++ map row_data (drop l.k l.rows) ≡ map row_data l.rows
