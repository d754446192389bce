-- A target of bytes in memory.
use Rattle.std.specs.Prelude.{ℕ, List}
use Rattle.gp_base.specs.FaultPlan.{CallPlan}

-- the bytes written, how many may be written in all, and which calls fail
pub record StoredBytes : Type 0 where
  pub written : List ℕ
  pub room : ℕ
  pub plan : CallPlan
