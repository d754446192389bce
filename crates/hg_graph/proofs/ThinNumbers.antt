-- Numbers that count up, filtered.
use Rattle.std.proofs.Common.{◌≡◌, ◌≢◌, inl, inr, ℕ, zero, suc, ◌+◌, ◌<◌, ◌≤◌, Bool, true, cond, [], ◌∷◌, length, filter, filter_map, Option, Some, None, refl, ap, ap₂, ◌∙◌, arith}
use Rattle.std.specs.List.{cons_option}
use Rattle.std.proofs.lemmas.Bool.Decides.{eqb_tells}
use Rattle.hg_graph.specs.Graph.{numbers}

pub length-numbers : (first count : ℕ) → length (numbers first count) ≡ count
length-numbers first zero = refl
length-numbers first (suc count) = ap suc (length-numbers (suc first) count)

-- each passes
pub filter_all : (test : ℕ → Bool) (first count : ℕ) → ((n : ℕ) → first ≤ n → n < first + count → test n ≡ true) → filter test (numbers first count) ≡ numbers first count
filter_all test first zero h = refl
filter_all test first (suc count) h =
    ap (λ b. cond b (first ∷ filter test (numbers (suc first) count)) (filter test (numbers (suc first) count))) (h first (omega arith) (omega arith))
    ∙ ap (λ ns. first ∷ ns) (filter_all test (suc first) count (λ n a b. h n (omega arith) (omega arith)))

-- none gives anything
pub filter_map_none : {A : Type 0} (f : ℕ → Option A) (first count : ℕ) → ((n : ℕ) → first ≤ n → n < first + count → f n ≡ None) → filter_map f (numbers first count) ≡ []
filter_map_none f first zero h = refl
filter_map_none f first (suc count) h = ap₂ cons_option (h first (omega arith) (omega arith)) (filter_map_none f (suc first) count (λ n a b. h n (omega arith) (omega arith)))

-- one gives something
pub filter_map_one : {A : Type 0} (f : ℕ → Option A) (first count k : ℕ) (a : A) → first ≤ k → k < first + count → f k ≡ Some a → ((n : ℕ) → first ≤ n → n < first + count → n ≢ k → f n ≡ None) → filter_map f (numbers first count) ≡ a ∷ []
filter_map_one f first zero k a le lt one none = absurd (omega arith)
filter_map_one f first (suc count) k a le lt one none =
    elim (eqb_tells first k) [
      | inl e ↦ let s = e.1 in ap₂ cons_option (ap f s ∙ one) (filter_map_none f (suc first) count (λ n l h. none n (omega arith) (omega arith) (λ x. absurd (omega arith))))
      | inr e ↦ let s = e.1 in ap₂ cons_option (none first (omega arith) (omega arith) s) (filter_map_one f (suc first) count k a (above s le) (omega arith) one (λ n l h. none n (omega arith) (omega arith)))
    ]
  where
    above : first ≢ k → first ≤ k → suc first ≤ k
    above ne l = omega arith
