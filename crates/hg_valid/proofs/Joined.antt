-- A list that is two lists, one behind the other.
use Rattle.std.proofs.Common.{◌≡◌, ℕ, ◌≤◌, ◌-◌, List, [], ◌∷◌, ◌++◌, length, map, take, drop, refl, ap₂, arith}

module _ {A B : Type 0} (f : A → B) where
  pub joined : (ts fs : List A) (bs : List A) → length fs ≤ length ts → map f (take (length fs) ts) ≡ map f fs → map f (drop (length fs) ts) ≡ map f bs → map f ts ≡ map f fs ++ map f bs
  joined ts [] bs l front back = back
  joined [] (x ∷ fs) bs l front back = absurd (omega arith)
  joined (t ∷ ts) (x ∷ fs) bs l front back = let first : f t ≡ f x = cc in let rest : map f (take (length fs) ts) ≡ map f fs = cc in ap₂ (λ y ys. y ∷ ys) first (joined ts fs bs (omega arith) rest back)

  pub front_of : (ts fs : List A) (bs : List B) → map f ts ≡ map f fs ++ bs → map f (take (length fs) ts) ≡ map f fs
  front_of ts [] bs e = refl
  front_of [] (x ∷ fs) bs e = absurd cc
  front_of (t ∷ ts) (x ∷ fs) bs e = let first : f t ≡ f x = cc in let rest : map f ts ≡ map f fs ++ bs = cc in ap₂ (λ y ys. y ∷ ys) first (front_of ts fs bs rest)

  pub back_of : (ts fs bs : List A) → map f ts ≡ map f fs ++ map f bs → map f (drop (length fs) ts) ≡ map f bs
  back_of ts [] bs e = e
  back_of [] (x ∷ fs) bs e = absurd cc
  back_of (t ∷ ts) (x ∷ fs) bs e = let rest : map f ts ≡ map f fs ++ map f bs = cc in back_of ts fs bs rest

-- what is left of a list, as a range of it
pub take_rest : {A : Type 0} (ts : List A) (n : ℕ) → take (length ts - n) (drop n ts) ≡ drop n ts
take_rest ts n = grind (arith, Rattle.std.proofs.lemmas.Grind.common_steps)
