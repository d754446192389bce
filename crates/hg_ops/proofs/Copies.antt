-- Several times one value.
use Rattle.std.proofs.Common.{◌≡◌, ◌+◌, ◌++◌, ◌∷◌, [], ℕ, replicate}
use Rattle.std.proofs.lemmas.List.{replicate-append-replicate}

pub replicate_next : {A : Type 0} (n : ℕ) (a : A) → replicate n a ++ a ∷ [] ≡ replicate (n + 1) a
replicate_next n a = replicate-append-replicate n 1 a
