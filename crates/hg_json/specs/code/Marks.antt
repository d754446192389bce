-- Marks between entries.
use Rattle.std.specs.Prelude.{ℕ, Bool, true, false, List, []}

-- a mark where something stands before
abbrev pub mark_if : List ℕ → Bool → List ℕ
mark_if mark true = mark
mark_if mark false = []
