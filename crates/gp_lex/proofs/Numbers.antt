-- The number that digits spell, as a loop reads them.
use Rattle.std.proofs.Common.{◌≡◌, ℕ, suc, ◌+◌, ◌-◌, ◌*◌, ◌/◌, ◌<◌, ◌≤◌, [], ◌∷◌, length, drop, get_or, ap, ◌∙◌, arith, drop-cons}
use Rattle.gp_lex.specs.Chars.{Text}
use Rattle.gp_lex.specs.Tokens.{number_from}

pub number_grows : (n : ℕ) (cs : Text) → n ≤ number_from n cs
number_grows n [] = omega arith
number_grows n (c ∷ cs) = omega (arith, number_grows (n * 10 + (c - 48)) cs)

-- one digit more
pub one_digit : (n i d : ℕ) (cs : Text) → i < length cs → number_from n (drop i cs) ≡ number_from (n * 10 + (get_or cs i d - 48)) (drop (i + 1) cs)
one_digit n i d cs lt = ap (number_from n) (drop-cons cs i d lt) ∙ ap (λ (k : ℕ). number_from (n * 10 + (get_or cs i d - 48)) (drop k cs)) (add_one i)
  where
    add_one : (i : ℕ) → suc i ≡ i + 1
    add_one i = omega arith

pub exceeds : (n i c digit : ℕ) (cs : Text) → i < length cs → c ≡ get_or cs i c → digit ≡ c - 48 → (9223372036854775807 - digit) / 10 < n → number_from 0 cs ≡ number_from n (drop i cs) → 9223372036854775807 < number_from 0 cs
exceeds n i c digit cs lt at is over so_far =
    let step = one_digit n i c cs lt in
    let grows = number_grows (n * 10 + (get_or cs i c - 48)) (drop (i + 1) cs) in
    let sum : 9223372036854775807 < n * 10 + digit = omega arith in
    omega (arith, step, grows, so_far)
