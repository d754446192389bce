-- The bytes that a call reads.
use Rattle.std.specs.Prelude.{◌≡◌, ℕ, ◌+◌, ◌≤◌, List, length, take, Option, Some, None}
use Rattle.std.specs.Option.{option_map}
use Rattle.gp_base.specs.Outside.{Holdings}

-- The bytes are what was read of a name, up to a limit: where contents are told, all that the name holds, or
-- the first limit + 1 of them where it holds more. Where contents aren't told, there are at most limit + 1.
abbrev pub AreRead : Holdings → List ℕ → ℕ → List ℕ → Type 0
AreRead None name limit bytes = length bytes ≤ limit + 1
AreRead (Some holds) name limit bytes = option_map (take (limit + 1)) (holds name) ≡ Some bytes

-- the bytes are what was read of a file of which this was left, up to a limit
abbrev pub AreReadOf : Option (List ℕ) → ℕ → List ℕ → Type 0
AreReadOf None limit bytes = length bytes ≤ limit + 1
AreReadOf (Some rest) limit bytes = take (limit + 1) rest ≡ bytes
