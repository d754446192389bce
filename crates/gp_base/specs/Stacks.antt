-- A stack as the list of its items, the top first.
use Rattle.std.specs.Prelude.{◌≡◌, Bool, true, false, List, [], ◌∷◌, Option, Some, None}

abbrev pub is_nothing : {A : Type 0} → List A → Bool
is_nothing [] = true
is_nothing (x ∷ xs) = false

-- the top, where there is one
abbrev pub top_of : {A : Type 0} → List A → Option A
top_of [] = None
top_of (x ∷ xs) = Some x

-- what stands below the top
abbrev pub below_top : {A : Type 0} → List A → List A
below_top [] = []
below_top (x ∷ xs) = xs

-- the stack before, what was taken off its top, and the stack that is left
abbrev pub Pops : {A : Type 0} → List A → Option A → List A → Type 0
Pops before (Some x) after = before ≡ x ∷ after
Pops before None after = (before ≡ []) × (after ≡ [])
