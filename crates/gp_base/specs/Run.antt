-- Runs: what they make of a state, and how they end.
use Rattle.std.specs.Prelude.{Option, Some, None}

-- how a run ends that doesn't return
pub data Stop : Type 0 where
  TurnsUsed : Stop
  OutcomesUsed : Stop
  DivisionByZero : Stop
  Stuck : Stop

-- the end of a run, with the state after it
pub data Out (S A : Type 0) : Type 0 where
  Returned : A → S → Out S A
  Stopped : Stop → S → Out S A

-- from the state before to the end
abbrev pub Run : Type 0 → Type 0 → Type 0
Run S A = S → Out S A

-- what returns at once, and what stops at once
abbrev pub ret : {S A : Type 0} → A → Run S A
ret a s = Returned a s

abbrev pub stop : {S A : Type 0} → Stop → Run S A
stop e s = Stopped e s

-- what is there, or a run that is stuck
abbrev pub or_stuck : {S A : Type 0} → Option A → Run S A
or_stuck None = stop Stuck
or_stuck (Some a) = ret a

-- goes on with what was returned; a run that stopped stays as it is
abbrev pub go_on : {S A B : Type 0} → Out S A → (A → Run S B) → Out S B
go_on (Returned a s) k = k a s
go_on (Stopped e s) k = Stopped e s

-- one run after another
infixl 20 ◌>>=◌
abbrev pub ◌>>=◌ : {S A B : Type 0} → Run S A → (A → Run S B) → Run S B
◌>>=◌ m k s = go_on (m s) k
