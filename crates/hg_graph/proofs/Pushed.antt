-- A number that is written at the end of one of several lists, and taken back.
use Rattle.std.proofs.Common.{◌≡◌, ◌<◌, ◌≤◌, ◌++◌, ◌∷◌, ◌∙◌, [], ℕ, zero, suc, List, length, get_or, slice_set, refl, ap, subst, arith, le-ltb}
use Rattle.hg_graph.specs.Graph.{Link}
use Rattle.hg_graph.specs.NodeIndex.{NodeIndex, pushed_at, with_input}

pub length-pushed_at : (p k : ℕ) (lists : List (List ℕ)) → length (pushed_at p k lists) ≡ length lists
length-pushed_at p k [] = refl
length-pushed_at zero k (xs ∷ rest) = refl
length-pushed_at (suc p) k (xs ∷ rest) = omega (arith, length-pushed_at p k rest)

-- no list stands at the place
pub pushed_at-past : (p k : ℕ) (lists : List (List ℕ)) → length lists ≤ p → pushed_at p k lists ≡ lists
pushed_at-past p k [] past = refl
pushed_at-past zero k (xs ∷ rest) past = absurd (omega arith)
pushed_at-past (suc p) k (xs ∷ rest) past = ap (λ ys. xs ∷ ys) (pushed_at-past p k rest (omega arith))

-- the list at the place, and the same with the number
pub set-pushed_at : (lists : List (List ℕ)) (p k : ℕ) (old new : List ℕ) → p < length lists → old ≡ get_or lists p old → new ≡ old ++ k ∷ []
    → slice_set lists p new ≡ pushed_at p k lists
set-pushed_at [] p k old new within is made = absurd (omega arith)
set-pushed_at (xs ∷ rest) zero k old new within is made = ap (λ ys. ys ∷ rest) (made ∙ ap (λ ys. ys ++ k ∷ []) is)
set-pushed_at (xs ∷ rest) (suc p) k old new within is made = ap (λ ys. xs ∷ ys) (set-pushed_at rest p k old new (omega arith) is made)

-- the number taken back
pub set_back-pushed_at : (before : List (List ℕ)) (p k : ℕ) (old new : List ℕ) → p < length before → old ≡ get_or (pushed_at p k before) p old
    → ((xs : List ℕ) (n : ℕ) → old ≡ xs ++ n ∷ [] → new ≡ xs) → slice_set (pushed_at p k before) p new ≡ before
set_back-pushed_at [] p k old new within is back = absurd (omega arith)
set_back-pushed_at (xs ∷ rest) zero k old new within is back = ap (λ ys. ys ∷ rest) (back xs k is)
set_back-pushed_at (xs ∷ rest) (suc p) k old new within is back = ap (λ ys. xs ∷ ys) (set_back-pushed_at rest p k old new (omega arith) is back)

pub taken_back : (lists before : List (List ℕ)) (p k : ℕ) (old new : List ℕ) → lists ≡ pushed_at p k before → p < length lists
    → old ≡ get_or lists p old → ((xs : List ℕ) (n : ℕ) → old ≡ xs ++ n ∷ [] → new ≡ xs) → slice_set lists p new ≡ before
taken_back lists before p k old new was within is back =
    let there : p < length before = omega (arith, ap length was, length-pushed_at p k before) in
    ap (λ ys. slice_set ys p new) was ∙ set_back-pushed_at before p k old new there (subst (λ ys. old ≡ get_or ys p old) was is) back

pub untouched : (lists before : List (List ℕ)) (p k : ℕ) → lists ≡ pushed_at p k before → length lists ≤ p → lists ≡ before
untouched lists before p k was past =
    was ∙ pushed_at-past p k before (omega (arith, ap length was, length-pushed_at p k before))

-- a link into an input that isn't there
pub with_input-past : (i : NodeIndex) (p k : ℕ) (link : Link) → length i.inputs ≤ p → with_input p link k i ≡ record i { strays = i.strays ++ link ∷ [] }
with_input-past i p k link past = rw (pushed_at-past p k i.inputs past, le-ltb p (length i.inputs) past) refl
