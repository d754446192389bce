-- Which calls on an object in memory fail, and what was counted.
use Rattle.std.specs.Prelude.{ℕ, ◌+◌, ◌-◌, ◌^◌, ◌==◌, min, Bool, if◌then◌else◌, List, [], ◌∷◌, ◌++◌}
use Rattle.std.specs.List.{list_any}

-- Calls are numbered from 0, so the next call has the number of calls so far. Both counts stop at 2^64 - 1.
pub record CallPlan : Type 0 where
  pub calls : ℕ
  pub failing : List ℕ
  pub faults : ℕ

-- no call was made, and none fails
abbrev pub no_failures : CallPlan
no_failures = record { calls = 0; failing = []; faults = 0 }

-- with this call failing too
abbrev pub failing_also : ℕ → CallPlan → CallPlan
failing_also call plan = record plan { failing = plan.failing ++ call ∷ [] }

-- one more, of a count that stops at the greatest `u64`
abbrev pub one_more : ℕ → ℕ
one_more count = min (count + 1) (2 ^ 64 - 1)

-- whether the next call is to fail
abbrev pub fails_next : CallPlan → Bool
fails_next plan = list_any (λ call. call == plan.calls) plan.failing

-- after a call, and whether it failed by a fault
abbrev pub counted : Bool → CallPlan → CallPlan
counted failed plan =
    record plan { calls = one_more plan.calls; faults = if failed then one_more plan.faults else plan.faults }
