-- Checks in their order. What a check or several of them find is the first fault, or none.
use Rattle.std.specs.Prelude.{◌≡◌, ◌≢◌, ℕ, Bool, true, false, List, Option, Some, None, Result, MatchResult, bytes_eq}
use Rattle.std.specs.List.{list_any}
use Rattle.gp_scope.specs.declared.fault.ScopeFault.{ScopeFault}
use Rattle.gp_scope.specs.declared.fault.ScopeFault.TheVariants.{Memory}

abbrev pub Found : Type 0
Found = Option ScopeFault

-- what is found first, by the checks before or by those that come next
abbrev pub first : Found → Found → Found
first None next = next
first (Some fault) next = Some fault

-- one check: this fault where the test holds
abbrev pub fault_where : Bool → ScopeFault → Found
fault_where true fault = Some fault
fault_where false fault = None

-- the name is among these
abbrev pub is_among : List ℕ → List (List ℕ) → Bool
is_among name names = list_any (bytes_eq name) names

-- The answer of a step of the code: `Ok` exactly where its checks find nothing, else what they find. Want of memory
-- may take the place of either.
abbrev pub Answers : {A : Type 0} → Result A ScopeFault → Found → Type 0
Answers result found = MatchResult result (λ _. found ≡ None) (λ fault. fault ≢ Memory → found ≡ Some fault)
