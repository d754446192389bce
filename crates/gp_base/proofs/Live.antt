-- Live qubits.
use Rattle.std.proofs.Common.{◌≡◌, ◌<◌, ℕ, zero, suc, Bool, true, List, [], ◌∷◌, length, arith}
use Rattle.gp_base.specs.World.{is_live}

-- a live qubit has a flag
pub is_live-lt : (flags : List Bool) (q : ℕ) → is_live flags q ≡ true → q < length flags
is_live-lt [] q live = cc
is_live-lt (flag ∷ flags) zero live = omega arith
is_live-lt (flag ∷ flags) (suc q) live = omega (arith, is_live-lt flags q live)
