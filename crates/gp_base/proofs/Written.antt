-- Writing a text piece by piece.
use Rattle.std.proofs.Common.{◌≡◌, ℕ, ◌+◌, ◌<◌, ◌≤◌, List, [], length, take, drop, Option, Some, None, refl, sym, ap, ◌∙◌, arith, length-drop}
use Rattle.std.proofs.lemmas.List.{append-nil}
use Rattle.gp_base.specs.Outside.{appended}
use Rattle.gp_base.proofs.Pieces.{appended-more}

-- the first bytes are written
pub record WrittenSoFar (bytes : List ℕ) (count : ℕ) (before now : Option (List ℕ)) (faults faults_now : ℕ) : Type 0 where
  pub within : count ≤ length bytes
  pub front : now ≡ appended before (take count bytes)
  pub faults_rise : faults ≤ faults_now

pub appended-nil : (before : Option (List ℕ)) → before ≡ appended before []
appended-nil None = refl
appended-nil (Some bytes) = ap Some (sym (append-nil bytes))

-- one more piece
pub one_more : (bytes : List ℕ) (count n : ℕ) (before now after : Option (List ℕ)) (faults faults_now faults_after : ℕ)
    → WrittenSoFar bytes count before now faults faults_now → count < length bytes → n ≤ length (drop count bytes) → after ≡ appended now (take n (drop count bytes)) → faults_now ≤ faults_after
    → WrittenSoFar bytes (count + n) before after faults faults_after
one_more bytes count n before now after faults faults_now faults_after so_far left within more rises = record {
  within = omega (arith, length-drop count bytes);
  front = more ∙ ap (λ b. appended b (take n (drop count bytes))) so_far.front ∙ appended-more before bytes count n;
  faults_rise = omega (arith, so_far.faults_rise);
}
