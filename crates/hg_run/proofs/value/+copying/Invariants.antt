use Rattle.std.proofs.Common.{◌≡◌, ◌++◌, map, drop}
use Rattle.hg_run.specs.code.ValueView.{value_view}
use Rattle.hg_run.proofs.value.+copying.Given as goal

-- the copies so far, and the values that are left
abbrev pub invariant-Values::copy-loop-k : goal.invariant-Values::copy-loop-k
invariant-Values::copy-loop-k l = map value_view l.values.items ++ map value_view (drop l.k l.self-inside.values.items) ≡ l.self
