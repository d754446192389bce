-- Members of a list by their places, and walks joined.
use Rattle.std.proofs.Common.{◌≡◌, inl, inr, ℕ, zero, suc, ◌<◌, List, [], ◌∷◌, length, get_or, sym, refl, arith}
use Rattle.gp_base.specs.Membership.{In}
use Rattle.walks.specs.Walks.{Walk, once, first, IsClosed}

pub place_in : (b : ℕ) (xs : List ℕ) → In b xs → (k : ℕ) × (k < length xs) × (get_or xs k 0 ≡ b)
place_in b [] i = absurd i
place_in b (x ∷ xs) (inl e) = (0, omega arith, sym e)
place_in b (x ∷ xs) (inr i) = let r = place_in b xs i in (suc r.0, omega arith, r.2)

pub in_place : (xs : List ℕ) (k : ℕ) → k < length xs → In (get_or xs k 0) xs
in_place [] k l = absurd (omega arith)
in_place (x ∷ xs) zero l = inl refl
in_place (x ∷ xs) (suc k) l = inr (in_place xs k (omega arith))

pub walk_on : (lists : List (List ℕ)) (a b c : ℕ) → Walk lists a b → Walk lists b c → Walk lists a c
walk_on lists a b c (once l) v = first l v
walk_on lists a b c (first l w) v = first l (walk_on lists _ b c w v)

-- a walk leads to nodes
pub reached_in : (lists : List (List ℕ)) → IsClosed lists → (a n : ℕ) → Walk lists a n → n < length lists
reached_in lists C a n (once i) = C.within a n i
reached_in lists C a n (first i w) = reached_in lists C _ n w
