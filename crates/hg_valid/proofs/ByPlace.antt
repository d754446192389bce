-- Items of lists by their places.
use Rattle.std.proofs.Common.{◌≡◌, ◌≢◌, ◌⊎◌, inl, inr, ℕ, zero, suc, ◌+◌, ◌<◌, ◌≤◌, List, [], ◌∷◌, ◌++◌, length, take, map, slice_index_or, subst, Some, slice_get, refl, sym, ap, arith, ◌∙◌}
use Rattle.std.proofs.lemmas.Bool.Decides.{eqb_tells}
use Rattle.gp_base.specs.Membership.{In}

pub get_before : {A : Type 0} (xs ys : List A) (n : ℕ) → n < length xs → slice_get (xs ++ ys) n ≡ slice_get xs n
get_before [] ys n l = absurd (omega arith)
get_before (x ∷ xs) ys zero l = refl
get_before (x ∷ xs) ys (suc n) l = get_before xs ys n (omega arith)

pub get_at : {A : Type 0} (xs : List A) (x : A) (ys : List A) → slice_get (xs ++ x ∷ ys) (length xs) ≡ Some x
get_at [] x ys = refl
get_at (y ∷ xs) x ys = get_at xs x ys

-- an item of a list with one more at its end is one of the list, or the one more
pub get_or_last : {A : Type 0} (xs : List A) (x y : A) (n : ℕ) → slice_get (xs ++ x ∷ []) n ≡ Some y → (slice_get xs n ≡ Some y) ⊎ ((n ≡ length xs) × (x ≡ y))
get_or_last [] x y zero e = inr (refl, cc)
get_or_last [] x y (suc n) e = absurd cc
get_or_last (z ∷ xs) x y zero e = inl e
get_or_last (z ∷ xs) x y (suc n) e = elim (get_or_last xs x y n e) [ inl h ↦ inl h | inr h ↦ inr (ap suc h.0, h.1) ]

pub get_within : {A : Type 0} (xs : List A) (n : ℕ) (x : A) → slice_get xs n ≡ Some x → n < length xs
get_within [] n x e = absurd cc
get_within (y ∷ xs) zero x e = omega arith
get_within (y ∷ xs) (suc n) x e = let l = get_within xs n x e in omega arith

pub in_get : {A : Type 0} (xs : List A) (x : A) → In x xs → (n : ℕ) × (slice_get xs n ≡ Some x)
in_get [] x i = absurd i
in_get (y ∷ xs) x (inl e) = (0, ap Some (sym e))
in_get (y ∷ xs) x (inr i) = let r = in_get xs x i in (suc r.0, r.1)

pub take_next : {A : Type 0} (xs : List A) (n : ℕ) (x : A) → slice_get xs n ≡ Some x → take (suc n) xs ≡ take n xs ++ x ∷ []
take_next [] n x e = absurd cc
take_next (y ∷ xs) zero x e = let s : y ≡ x = cc in ap (λ z. z ∷ []) s
take_next (y ∷ xs) (suc n) x e = ap (λ zs. y ∷ zs) (take_next xs n x e)

pub take_whole : {A : Type 0} (xs : List A) → take (length xs) xs ≡ xs
take_whole [] = refl
take_whole (x ∷ xs) = ap (λ ys. x ∷ ys) (take_whole xs)

pub In-append : {A : Type 0} (xs ys : List A) (x : A) → In x (xs ++ ys) → In x xs ⊎ In x ys
In-append [] ys x i = inr i
In-append (z ∷ xs) ys x (inl e) = inl (inl e)
In-append (z ∷ xs) ys x (inr i) = elim (In-append xs ys x i) [ inl h ↦ inl (inr h) | inr h ↦ inr h ]

pub In-front : {A : Type 0} (xs ys : List A) (x : A) → In x xs → In x (xs ++ ys)
In-front [] ys x i = absurd i
In-front (z ∷ xs) ys x (inl e) = inl e
In-front (z ∷ xs) ys x (inr i) = inr (In-front xs ys x i)

pub In-last : {A : Type 0} (xs : List A) (x : A) → In x (xs ++ x ∷ [])
In-last [] x = inl refl
In-last (z ∷ xs) x = inr (In-last xs x)

-- a list with items at its first two places
pub two_first : {A : Type 0} (xs : List A) (a b : A) → slice_get xs 0 ≡ Some a → slice_get xs 1 ≡ Some b → (rest : List A) × (xs ≡ a ∷ b ∷ rest)
two_first [] a b e f = absurd cc
two_first (x ∷ []) a b e f = absurd cc
two_first (x ∷ y ∷ rest) a b e f = (rest, cc)

pub take_plus : {A : Type 0} (xs : List A) (n : ℕ) (x : A) → slice_get xs n ≡ Some x → take (n + 1) xs ≡ take n xs ++ x ∷ []
take_plus xs n x e = let s : n + 1 ≡ suc n = omega arith in ap (λ k. take k xs) s ∙ take_next xs n x e

pub take_all : {A : Type 0} (xs : List A) (n : ℕ) → length xs ≤ n → take n xs ≡ xs
take_all [] zero l = refl
take_all [] (suc n) l = refl
take_all (x ∷ xs) zero l = absurd (omega arith)
take_all (x ∷ xs) (suc n) l = ap (λ ys. x ∷ ys) (take_all xs n (omega arith))

-- the item at a place, as an index reads it, and as a look-up finds it
pub item_at : {A B : Type 0} (f : A → B) (xs : List A) (n : ℕ) (x : A) (y : B) → x ≡ slice_index_or xs n x → n < length xs → slice_get (map f xs) n ≡ Some y → f x ≡ y
item_at f [] n x y is l e = absurd (omega arith)
item_at f (z ∷ xs) zero x y is l e = ap f is ∙ some_is (f z) y e
  where
    some_is : {C : Type 0} (a b : C) → Some a ≡ Some b → a ≡ b
    some_is a b e = cc
item_at f (z ∷ xs) (suc n) x y is l e = item_at f xs n x y is (omega arith) e

pub item_is : {A : Type 0} (xs : List A) (n : ℕ) (x y : A) → x ≡ slice_index_or xs n x → n < length xs → slice_get xs n ≡ Some y → x ≡ y
item_is [] n x y is l e = absurd (omega arith)
item_is (z ∷ xs) zero x y is l e = is ∙ some_is z y e
  where
    some_is : {C : Type 0} (a b : C) → Some a ≡ Some b → a ≡ b
    some_is a b e = cc
item_is (z ∷ xs) (suc n) x y is l e = item_is xs n x y is (omega arith) e

-- what holds of the items before a place and of the item there holds of those before the next place
pub next_place : {B : Type 0} (P : ℕ → B → Type 0) (ys : List B) (n : ℕ) (y : B) → ((z : B) → slice_get ys n ≡ Some z → y ≡ z) → ((k : ℕ) (z : B) → k < n → slice_get ys k ≡ Some z → P k z) → P n y
    → (k : ℕ) (z : B) → k < n + 1 → slice_get ys k ≡ Some z → P k z
next_place P ys n y is before here k z l e = elim (eqb_tells k n) [
  | inl s ↦ let at : slice_get ys n ≡ Some z = ap (slice_get ys) (sym s.1) ∙ e in subst (λ j. P j z) (sym s.1) (subst (P n) (is z at) here)
  | inr s ↦ before k z (less s.1) e
]
  where
    less : k ≢ n → k < n
    less ne = omega arith
