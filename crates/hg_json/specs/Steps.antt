-- Steps of reading, one after the other, and of reading bytes from left to right.
use Rattle.std.specs.Prelude.{ℕ, zero, suc, Bool, List, [], ◌∷◌, Option, Some, None, ◌==◌, if◌then◌else◌}

infixl 10 ◌>>=◌
-- the second step on what the first found
abbrev pub ◌>>=◌ : {A B : Type 0} → Option A → (A → Option B) → Option B
None >>= f = None
(Some x) >>= f = f x

-- what was found, where the test holds
abbrev pub when : {A : Type 0} → Bool → Option A → Option A
when b answer = if b then answer else None

-- goes on with what was found, or does something else
abbrev pub found : {A B : Type 0} → Option A → (A → B) → B → B
found (Some x) f other = f x
found None f other = other

-- the bytes behind this one, where it is the first
unfoldable pub past : ℕ → List ℕ → Option (List ℕ)
past b [] = None
past b (x ∷ xs) = if x == b then Some xs else None

module _ {A : Type 0} (entry : List ℕ → Option (A × List ℕ)) (mark : ℕ) where
  -- One entry or more, with a mark between each two, and what stands behind them; each takes a turn. There are never more
  -- than bytes.
  unfoldable pub separated : ℕ → List ℕ → Option (List A × List ℕ)
  separated zero bs = None
  separated (suc n) bs =
      entry bs >>= λ x.
      found (past mark x.1) (λ rest. separated n rest >>= λ y. Some (x.0 ∷ y.0, y.1)) (Some (x.0 ∷ [], x.1))
