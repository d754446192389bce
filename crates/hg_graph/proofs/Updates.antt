-- Changes of what is kept of one node.
use Rattle.std.proofs.Common.{◌≡◌, ◌<◌, ◌≢◌, ◌∷◌, ◌∙◌, [], ℕ, zero, suc, List, Some, length, slice_get, get_or, slice_set, refl, ap, subst, arith}
use Rattle.hg_graph.specs.NodeIndex.{NodeIndex}
use Rattle.hg_graph.specs.code.GraphIndex.{updated}

pub length-updated : (n : ℕ) (f : NodeIndex → NodeIndex) (xs : List NodeIndex) → length (updated n f xs) ≡ length xs
length-updated n f [] = refl
length-updated zero f (x ∷ xs) = refl
length-updated (suc n) f (x ∷ xs) = omega (arith, length-updated n f xs)

pub get-updated_same : (n : ℕ) (f : NodeIndex → NodeIndex) (xs : List NodeIndex) (x : NodeIndex) → slice_get xs n ≡ Some x → slice_get (updated n f xs) n ≡ Some (f x)
get-updated_same n f [] x is = cc
get-updated_same zero f (y ∷ xs) x is = let same : y ≡ x = cc in ap (λ z. Some (f z)) same
get-updated_same (suc n) f (y ∷ xs) x is = get-updated_same n f xs x is

pub get-updated_other : (n m : ℕ) (f : NodeIndex → NodeIndex) (xs : List NodeIndex) → n ≢ m → slice_get (updated n f xs) m ≡ slice_get xs m
get-updated_other n m f [] other = refl
get-updated_other zero zero f (x ∷ xs) other = absurd (other refl)
get-updated_other zero (suc m) f (x ∷ xs) other = refl
get-updated_other (suc n) zero f (x ∷ xs) other = refl
get-updated_other (suc n) (suc m) f (x ∷ xs) other = get-updated_other n m f xs (λ e. other (ap suc e))

-- the code's write
pub set-updated : (xs : List NodeIndex) (n : ℕ) (f : NodeIndex → NodeIndex) (old new : NodeIndex) → n < length xs → old ≡ get_or xs n old → new ≡ f old
    → slice_set xs n new ≡ updated n f xs
set-updated [] n f old new within is made = absurd (omega arith)
set-updated (x ∷ xs) zero f old new within is made = ap (λ y. y ∷ xs) (made ∙ ap f is)
set-updated (x ∷ xs) (suc n) f old new within is made = ap (λ ys. x ∷ ys) (set-updated xs n f old new (omega arith) is made)

-- a change taken back
set_back : (before : List NodeIndex) (n : ℕ) (f : NodeIndex → NodeIndex) (old new : NodeIndex) → n < length before → old ≡ get_or (updated n f before) n old
    → ((x : NodeIndex) → old ≡ f x → new ≡ x) → slice_set (updated n f before) n new ≡ before
set_back [] n f old new within is back = absurd (omega arith)
set_back (x ∷ xs) zero f old new within is back = ap (λ y. y ∷ xs) (back x is)
set_back (x ∷ xs) (suc n) f old new within is back = ap (λ ys. x ∷ ys) (set_back xs n f old new (omega arith) is back)

pub set_back-updated : (xs before : List NodeIndex) (n : ℕ) (f : NodeIndex → NodeIndex) (old new : NodeIndex) → xs ≡ updated n f before → n < length xs
    → old ≡ get_or xs n old → ((x : NodeIndex) → old ≡ f x → new ≡ x) → slice_set xs n new ≡ before
set_back-updated xs before n f old new was within is back =
    let there : n < length before = omega (arith, ap length was, length-updated n f before) in
    ap (λ ys. slice_set ys n new) was ∙ set_back before n f old new there (subst (λ ys. old ≡ get_or ys n old) was is) back
