-- Entries of lists, as values are seen.
use Rattle.std.proofs.Common.{◌≡◌, ℕ, zero, suc, List, [], ◌∷◌, Option, Some, None, get_or, set, map, option_map, length, refl, ap, ◌<◌, ◌≤◌, arith}

pub entry : {A B : Type 0} (f : A → B) (xs : List (Option A)) (k : ℕ) (d : Option A) → k < length xs → option_map f (get_or xs k d) ≡ get_or (map (option_map f) xs) k None
entry f [] k d h = absurd (omega (arith, h))
entry f (x ∷ xs) zero d h = refl
entry f (x ∷ xs) (suc k) d h = entry f xs k d (omega (arith, h))

pub entry_past : {A B : Type 0} (f : A → B) (xs : List (Option A)) (k : ℕ) → length xs ≤ k → None ≡ get_or (map (option_map f) xs) k None
entry_past f [] k h = refl
entry_past f (x ∷ xs) zero h = absurd (omega (arith, h))
entry_past f (x ∷ xs) (suc k) h = entry_past f xs k (omega (arith, h))

pub entry_set : {A B : Type 0} (f : A → B) (xs : List (Option A)) (k : ℕ) (x : A) → map (option_map f) (set xs k (Some x)) ≡ set (map (option_map f) xs) k (Some (f x))
entry_set f [] k x = refl
entry_set f (y ∷ xs) zero x = refl
entry_set f (y ∷ xs) (suc k) x = ap (λ ys. option_map f y ∷ ys) (entry_set f xs k x)

pub entry_out : {A B : Type 0} (f : A → B) (xs : List (Option A)) (k : ℕ) (v : Option B) → length xs ≤ k → map (option_map f) xs ≡ set (map (option_map f) xs) k v
entry_out f [] k v h = refl
entry_out f (x ∷ xs) zero v h = absurd (omega (arith, h))
entry_out f (x ∷ xs) (suc k) v h = ap (λ ys. option_map f x ∷ ys) (entry_out f xs k v (omega (arith, h)))

pub ruleset entries = (entry, entry_past, entry_set, entry_out)
