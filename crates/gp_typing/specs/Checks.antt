-- Checks one after another, of which the first fault is the answer.
use Rattle.std.specs.Prelude.{◌≡◌, ◌≢◌, Bool, true, false, Option, Some, None, Result, Ok, Err, MatchResult}
use Rattle.gp_typing.specs.declared.fault.TypeFault.{TypeFault}
use Rattle.gp_typing.specs.declared.fault.TypeFault.TheVariants.{Memory}

abbrev pub Checked : Type 0 → Type 0
Checked A = Result A TypeFault

infixl 20 ◌>>=◌
abbrev pub ◌>>=◌ : {A B : Type 0} → Checked A → (A → Checked B) → Checked B
◌>>=◌ (Ok a) k = k a
◌>>=◌ (Err f) k = Err f

-- goes on where the test holds, else there is this fault
abbrev pub check : Bool → TypeFault → Checked (Unit {0})
check true f = Ok tt
check false f = Err f

-- what was looked for, else this fault
abbrev pub found : {A : Type 0} → Option A → TypeFault → Checked A
found None f = Err f
found (Some a) f = Ok a

-- The code's answer, seen through this view, is what the definition answers, be it `Ok` or a fault. Want of memory may
-- take its place.
abbrev pub Answers : {A B : Type 0} → (A → B) → Result A TypeFault → Checked B → Type 0
Answers view result checked = MatchResult result (λ made. checked ≡ Ok (view made)) (λ fault. fault ≢ Memory → checked ≡ Err fault)
