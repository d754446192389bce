-- Whether types are the same, by computation.
use Rattle.std.specs.Prelude.{Bool, true, false, ◌&&◌, List, [], ◌∷◌}
use Rattle.hg_ops.specs.GraphType.{GraphType, Int, Qubit, Sum, Function, Row, no_types, next, Rows, no_rows, next_row}

abbrev mutual
  pub same_type : GraphType → GraphType → Bool
  same_type Int Int = true
  same_type Qubit Qubit = true
  same_type (Sum a) (Sum b) = same_rows a b
  same_type (Function a b) (Function c d) = same_row a c && same_row b d
  same_type _ _ = false

  pub same_row : Row → Row → Bool
  same_row no_types no_types = true
  same_row (next t r) (next u s) = same_type t u && same_row r s
  same_row _ _ = false

  pub same_rows : Rows → Rows → Bool
  same_rows no_rows no_rows = true
  same_rows (next_row r rs) (next_row s ss) = same_row r s && same_rows rs ss
  same_rows _ _ = false

-- lists of types, place by place
abbrev pub same_types : List GraphType → List GraphType → Bool
same_types [] [] = true
same_types (t ∷ ts) (u ∷ us) = same_type t u && same_types ts us
same_types _ _ = false
