-- The turns of a loop over entries with marks between, beside what the reading of them says.
use Rattle.std.proofs.Common.{◌≡◌, ℕ, suc, ◌+◌, ◌-◌, ◌<◌, ◌≤◌, List, [], ◌∷◌, ◌++◌, Option, Some, None, refl, sym, ap, ◌∙◌, arith, append_assoc}
use Rattle.hg_json.specs.declared.fault.Miss.{Miss}
use Rattle.hg_json.specs.declared.fault.Miss.TheVariants as miss
use Rattle.hg_json.specs.Steps.{◌>>=◌, past, separated}
use Rattle.hg_json.specs.code.Found.{Misses}

-- the entries that were read before, and then the rest
abbrev pub with_entries : {A : Type 0} → List A → Option (List A × List ℕ) → Option (List A × List ℕ)
with_entries front read = read >>= λ x. Some (front ++ x.0, x.1)

regroup : {A : Type 0} (front : List A) (x : A) (read : Option (List A × List ℕ)) → with_entries front (read >>= λ y. Some (x ∷ y.0, y.1)) ≡ with_entries (front ++ x ∷ []) read
regroup front x None = refl
regroup front x (Some y) = ap (λ xs. Some (xs, y.1)) (sym (append_assoc front (x ∷ []) y.0))

none_before : {A : Type 0} (read : Option (List A × List ℕ)) → with_entries [] read ≡ read
none_before None = refl
none_before (Some x) = refl

pub starts : {A : Type 0} (entry : List ℕ → Option (A × List ℕ)) (mark n : ℕ) (bs : List ℕ) → with_entries [] (separated entry mark (n - 0) bs) ≡ separated entry mark n bs
starts entry mark n bs = let k : n - 0 ≡ n = omega arith in none_before (separated entry mark (n - 0) bs) ∙ ap (λ m. separated entry mark m bs) k

module _ {A : Type 0} (entry : List ℕ → Option (A × List ℕ)) (mark : ℕ) (front : List A) (n at : ℕ) (bs : List ℕ) (total : Option (List A × List ℕ)) (so_far : with_entries front (separated entry mark (n - at) bs) ≡ total) where
  abbrev turn : ℕ → Option (List A × List ℕ)
  turn k = with_entries front (separated entry mark k bs)

  now : at < n → turn (suc (n - (at + 1))) ≡ total
  now below = let k : suc (n - (at + 1)) ≡ n - at = omega arith in ap turn k ∙ so_far

  pub no_entry : (e : Miss) → at < n → Misses e (entry bs) → Misses e total
  unfolding separated
  no_entry miss.Memory below fails = tt
  no_entry miss.Shape below fails =
      let none : turn (suc (n - (at + 1))) ≡ None = rw fails refl in
      sym (now below) ∙ none

  module _ (below : at < n) (x : A) (behind : List ℕ) (read : entry bs ≡ Some (x, behind)) where
    pub last_entry : past mark behind ≡ None → total ≡ Some (front ++ x ∷ [], behind)
    unfolding separated
    last_entry ends =
        let one : turn (suc (n - (at + 1))) ≡ Some (front ++ x ∷ [], behind) = rw (read, ends) refl in
        sym (now below) ∙ one

    pub one_entry : (rest : List ℕ) → past mark behind ≡ Some rest → with_entries (front ++ x ∷ []) (separated entry mark (n - (at + 1)) rest) ≡ total
    unfolding separated
    one_entry rest more =
        let one : turn (suc (n - (at + 1))) ≡ with_entries front (separated entry mark (n - (at + 1)) rest >>= λ y. Some (x ∷ y.0, y.1)) = rw (read, more) refl in
        sym (regroup front x (separated entry mark (n - (at + 1)) rest)) ∙ sym one ∙ now below

  pub run_out : n ≤ at → total ≡ None
  unfolding separated
  run_out done =
      let k : n - at ≡ 0 = omega arith in
      let none : turn (n - at) ≡ None = rw k refl in
      sym so_far ∙ none
