-- Pieces read and written one after another, for the crates that read and write them.
use Rattle.std.proofs.Common.{◌≡◌, ℕ, ◌+◌, List, ◌++◌, take, drop, Option, Some, None, refl, sym, ap}
use Rattle.std.proofs.Math.Seq.{take-add}
use Rattle.std.proofs.lemmas.List.{append_assoc}
use Rattle.gp_base.specs.Outside.{appended, prepended}

-- two pieces written one after another
pub appended-appended : (bytes : Option (List ℕ)) (first second : List ℕ) → appended (appended bytes first) second ≡ appended bytes (first ++ second)
appended-appended None first second = refl
appended-appended (Some bytes) first second = ap (λ all. Some all) (append_assoc bytes first second)

-- the front of a text written, and then more of it
pub appended-more : (bytes : Option (List ℕ)) (text : List ℕ) (done more : ℕ) → appended (appended bytes (take done text)) (take more (drop done text)) ≡ appended bytes (take (done + more) text)
appended-more bytes text done more =
    rw (take-add done more text) (appended-appended bytes (take done text) (take more (drop done text)))

-- two pieces read one after another
pub prepended-prepended : (first second : List ℕ) (rest : Option (List ℕ)) → prepended first (prepended second rest) ≡ prepended (first ++ second) rest
prepended-prepended first second None = refl
prepended-prepended first second (Some rest) = ap (λ all. Some all) (sym (append_assoc first second rest))
