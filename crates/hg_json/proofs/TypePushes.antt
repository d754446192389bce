-- Writing the text of a type.
use Rattle.std.proofs.Common.{◌≡◌, ◌<◌, ℕ, zero, suc, List, [], ◌∷◌, length, get_or, map, Bool, true, false, ap, arith}
use Rattle.hg_ops.specs.GraphType.{GraphType, Row, Rows}
use Rattle.hg_ops.specs.TypeView.{type_view}
use Rattle.hg_ops.specs.code.TypeSize.{type_size, row_size, rows_size}
use Rattle.hg_ops.specs.declared.graph_type.GraphType.{GraphType as Declared}
use Rattle.hg_json.specs.TypeText.{row_onto, more_types_onto, rows_onto, more_rows_onto}

-- ---- a list from some place on

abbrev pub types_onto : Bool → Row → List ℕ → List ℕ
types_onto true ts rest = more_types_onto ts rest
types_onto false ts rest = row_onto ts rest

abbrev pub sum_onto : Bool → Rows → List ℕ → List ℕ
sum_onto true rows rest = more_rows_onto rows rest
sum_onto false rows rest = rows_onto rows rest

-- ---- an entry is smaller than its list

pub type_falls : (ts : List Declared) (k : ℕ) (t d : Declared) → k < length ts → t ≡ get_or ts k d → type_size (type_view t) < row_size (map type_view ts)
type_falls [] k t d lt is = absurd (omega arith)
type_falls (u ∷ ts) zero t d lt is = let same : type_size (type_view t) ≡ type_size (type_view u) = ap (λ x. type_size (type_view x)) is in omega (arith, same)
type_falls (u ∷ ts) (suc k) t d lt is = omega (arith, type_falls ts k t d (omega arith) is)

pub row_falls : (rows : List (List GraphType)) (k : ℕ) (row d : List GraphType) → k < length rows → row ≡ get_or rows k d → row_size row < rows_size rows
row_falls [] k row d lt is = absurd (omega arith)
row_falls (u ∷ rows) zero row d lt is = let same : row_size row ≡ row_size u = ap row_size is in omega (arith, same)
row_falls (u ∷ rows) (suc k) row d lt is = omega (arith, row_falls rows k row d (omega arith) is)
