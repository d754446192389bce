-- Reading a file piece by piece.
use Rattle.std.proofs.Common.{◌≡◌, ℕ, ◌+◌, ◌<◌, ◌≤◌, Bool, true, List, [], ◌++◌, length, Option, Some, None, refl, ap, ◌∙◌, arith}
use Rattle.std.proofs.lemmas.List.{append-nil, take-append-le, take_all}
use Rattle.gp_base.specs.Outside.{prepended, IsEndOf}
use Rattle.gp_base.proofs.Pieces.{prepended-prepended}
use Rattle.guppy_call.specs.Input.{AreReadOf}

-- the bytes so far, in front of what is left, are all that was left at the start
pub record ReadSoFar (limit : ℕ) (start : Option (List ℕ)) (faults : ℕ) (bytes : List ℕ) (rest : Option (List ℕ)) (is_open : Bool) (now : ℕ) : Type 0 where
  pub joined : start ≡ prepended bytes rest
  pub within : length bytes ≤ limit + 1
  pub still_open : is_open ≡ true
  pub count : faults ≤ now

pub prepended-nil : (rest : Option (List ℕ)) → rest ≡ prepended [] rest
prepended-nil None = refl
prepended-nil (Some rest) = refl

-- one more piece
pub one_more : (front more : List ℕ) (start rest left : Option (List ℕ)) → start ≡ prepended front rest → rest ≡ prepended more left → start ≡ prepended (front ++ more) left
one_more front more start rest left s r = s ∙ ap (prepended front) r ∙ prepended-prepended front more left

-- all that may be read was read
pub is_full : (limit : ℕ) (start rest : Option (List ℕ)) (bytes : List ℕ) → start ≡ prepended bytes rest → limit < length bytes → length bytes ≤ limit + 1 → AreReadOf start limit bytes
is_full limit start None bytes s more within = rw s within
is_full limit start (Some rest) bytes s more within =
    rw s (take-append-le (limit + 1) bytes rest (omega arith) ∙ take_all (limit + 1) bytes within)

-- the file has ended
pub is_over : (limit : ℕ) (start rest : Option (List ℕ)) (bytes : List ℕ) → start ≡ prepended bytes rest → IsEndOf rest 0 → length bytes ≤ limit + 1 → AreReadOf start limit bytes
is_over limit start None bytes s over within = rw s within
is_over limit start (Some rest) bytes s over within =
    let none : rest ≡ [] = over.0 refl in
    rw (s, none, append-nil bytes) (take_all (limit + 1) bytes within)
